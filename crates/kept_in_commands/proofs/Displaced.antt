-- The packages that an unpack displaces take nothing away at places of others.
use Rattle.std.proofs.Common.{◌≡◌, ◌≢◌, ◌⊎◌, ◌||◌, inl, inr, ℕ, zero, suc, Bool, true, false, cond, List, [], ◌∷◌, ◌++◌, Option, Some, None, IsTrue, Contains, filter, map, refl, sym, ap, subst, ◌∙◌, arith}
use Rattle.std.specs.List.{flat_map, list_any}
use Rattle.std.specs.Str.{bytes_eq}
use Rattle.std.proofs.lemmas.Bool.{false_from_ne_true, or_from, true≢false}
use Rattle.std.proofs.lemmas.List.Elements.{Contains-append_right}
use Rattle.std.proofs.lemmas.List.Folds.{list_any-append}
use Rattle.std.proofs.lemmas.Slice.Eq.{bytes_eq-Decides}
use Rattle.host_core.specs.Paths.{Path}
use Rattle.host_core.specs.Suffixes.{suffix_text}
use Rattle.host_core.specs.declared.suffix.Suffix.{Suffix}
use Rattle.host_core.specs.declared.suffix.Suffix.TheVariants.{New, Tmp, Inst}
use Rattle.host_core.specs.Host.{State}
use Rattle.host_core.specs.declared.call.Call.{Call}
use Rattle.host_core.proofs.ShipNames.{plain_other}
use Rattle.undo_rows.specs.declared.rows.Called.{Called}
use Rattle.diversions.specs.Ways.{Ways, place}
use Rattle.file_lists.specs.Owners.{has_other_owner, paths_of}
use Rattle.file_lists.specs.declared.paths.Listed.{Listed}
use Rattle.file_lists.specs.declared.paths.PackageList.{PackageList}
use Rattle.file_removal.specs.Clearing.{is_among}
use Rattle.list_changes.specs.Clearable.{clearable, is_clearable}
use Rattle.status_records.specs.declared.entries.PendingDigest.{PendingDigest}
use Rattle.status_records.specs.declared.record.Record.{Record}
use Rattle.removal_engine.specs.Names.{cleared_names, unpack_names, waiting_names}
use Rattle.removal_engine.specs.Records.{entry_paths}
use Rattle.removal_engine.specs.Stages.{files_stages, gone_stage, planned, stage_of}
use Rattle.removal_engine.specs.Units.{HasRemoved, given}
use Rattle.removal_engine.specs.declared.extent.Extent.TheVariants.{InFavour}
use Rattle.removal_engine.specs.declared.scripts.Stored.{Stored}
use Rattle.removal_engine.proofs.Tables.{is_named}
use Rattle.stop_laws.proofs.Moments.{AllIn}
use Rattle.stop_laws.proofs.RemovalStages.{OfEnds, OfFiles, files_all}
use Rattle.unit_stages.specs.Holding.{Holding}
use Rattle.conflict_removal.specs.Removals.{HaveBeenRemoved, IsRemovedOrGone}
use Rattle.disappearance.specs.Runs.{HaveDisappeared}
use Rattle.disappearance.specs.Units.{HasDisappeared, IsDecided}
use Rattle.disappearance.specs.declared.losing.Losing.{Losing}
use Rattle.displaced_packages.specs.Displacing.{HaveBeenDisplaced, IsBroughtToDisk}
use Rattle.kept_files.specs.Kept.{IsOthersPlace, IsPackagePlace}
use Rattle.kept_files.proofs.Aside.{none_leaves, other_owner}
use Rattle.kept_in_commands.proofs.Owners.{Owns}
use Rattle.kept_in_commands.proofs.Stages.{Leaves, Passes, passes_same, passes_then, run_passes}

module _ (q : Path) (packaged : IsPackagePlace q) where
  not_ending : (at : Path) (s : Suffix) → bytes_eq q (at ++ suffix_text s) ≡ false
  not_ending at s = false_from_ne_true (bytes_eq q (at ++ suffix_text s)) (λ e. plain_other q at s packaged.plain ((bytes_eq-Decides q (at ++ suffix_text s)).0 e))

  no_filter : (P : Path → Bool) (xs : List Path) → is_among xs q ≡ false → is_among (filter P xs) q ≡ false
  no_filter P [] none = refl
  no_filter P (x ∷ xs) none = by (P x) (bytes_eq q x) refl none (no_filter P xs)
    where
      by : (b here : Bool) → bytes_eq q x ≡ here → here || is_among xs q ≡ false → (is_among xs q ≡ false → is_among (filter P xs) q ≡ false) → is_among (cond b (x ∷ filter P xs) (filter P xs)) q ≡ false
      by b true is some rest = absurd (true≢false some)
      by true false is some rest = or_from (bytes_eq q x) (is_among (filter P xs) q) is (rest some)
      by false false is some rest = rest some

  no_flat : {X : Type 0} (f : X → List Path) → ((x : X) → is_among (f x) q ≡ false) → (xs : List X) → is_among (flat_map f xs) q ≡ false
  no_flat f none [] = refl
  no_flat f none (x ∷ xs) = list_any-append (bytes_eq q) (f x) (flat_map f xs) ∙ or_from (is_among (f x) q) (is_among (flat_map f xs) q) (none x) (no_flat f none xs)

  no_waiting : (ways : Ways) (name : List ℕ) (pending : List PendingDigest) → is_among (waiting_names ways name pending) q ≡ false
  no_waiting ways name pending =
      no_flat (λ (d : PendingDigest). clearable ((place ways name d.path ++ suffix_text New) ∷ []))
      (λ d. no_filter is_clearable ((place ways name d.path ++ suffix_text New) ∷ []) (or_from (bytes_eq q (place ways name d.path ++ suffix_text New)) false (not_ending (place ways name d.path) New) refl)) pending

  no_beside : (at : Path) → is_among (clearable (unpack_names at)) q ≡ false
  no_beside at = no_filter is_clearable (unpack_names at)
      (or_from (bytes_eq q (at ++ suffix_text Inst)) _ (not_ending at Inst) (or_from (bytes_eq q (at ++ suffix_text Tmp)) false (not_ending at Tmp) refl))

  unless_none : (b : Bool) (xs : List Path) → is_among xs q ≡ false → is_among (cond b [] xs) q ≡ false
  unless_none true xs none = refl
  unless_none false xs none = none

  no_cleared : (ways : Ways) (lists : List PackageList) (r : Record) → is_among (cleared_names ways lists r) q ≡ false
  no_cleared ways lists r =
      no_flat (λ (path : Path). cond (list_any (bytes_eq path) (entry_paths r.conffiles)) [] (clearable (unpack_names (place ways r.name path))))
      (λ path. unless_none (list_any (bytes_eq path) (entry_paths r.conffiles)) (clearable (unpack_names (place ways r.name path))) (no_beside (place ways r.name path))) (paths_of lists r.name)

  module _ (ways : Ways) (x : Listed) where
    -- one is removed in favour
    files_leave : (lists : List PackageList) (r : Record) (stored : Stored) (to_come : List Path) → x.name ≢ r.name → Owns ways q x lists → AllIn (Leaves q packaged.outside) (files_stages ways lists r stored false to_come)
    files_leave lists r stored to_come other owns =
        files_all (Leaves q packaged.outside) ways lists r stored to_come
        (record { left = tt; members = λ keep. tt; bare = tt; unlisted = tt; forgotten = tt })
        (record {
          losing = tt;
          waiting = no_waiting ways r.name r.pending;
          files = none_leaves q ways lists r.name (other_owner ways lists r.name q (record { owner = x; lies = owns; other = other })) to_come (entry_paths r.conffiles) (paths_of lists r.name);
          names = no_cleared ways lists r;
          listed = tt;
          lost = tt;
        })
        false (λ e. absurd (true≢false (sym e)))

    removed_passes : (name : List ℕ) → x.name ≢ name → (failed : Option Call) (before after : Holding) (s t : State) (told now : List Called) → Owns ways q x before.lists
        → HasRemoved (given InFavour name ways before) failed after s t told now → Passes q ways x after s t
    removed_passes name other failed before after s t told now owns unit =
        let entry = unit.plan.entry in
        let own : entry.name ≡ name = is_named before.records name entry unit.plan.found in
        run_passes q packaged.outside name ways x other unit.stages failed before after s t told now
        (subst (AllIn (Leaves q packaged.outside)) (sym unit.plan.plan.are) (files_leave before.lists entry unit.plan.plan.stored unit.plan.plan.to_come (λ e. other (e ∙ own)) owns)) owns unit.run

    removed_or_gone : (name : List ℕ) → x.name ≢ name → (failed : Option Call) (before after : Holding) (s t : State) (told now : List Called) → Owns ways q x before.lists
        → IsRemovedOrGone ways name failed before after s t told now → Passes q ways x after s t
    removed_or_gone name other failed before after s t told now owns (IsRemovedOrGone.removed unit end order) = removed_passes name other failed before after s t told now owns unit
    removed_or_gone name other failed before after s t told now owns (IsRemovedOrGone.passed none no_failure held here calls) = passes_same q ways x before after s t held here owns

    all_removed : (names : List (List ℕ)) → (Contains names x.name → ⊥) → (failed : Option Call) (before after : Holding) (s t : State) (told now : List Called) → Owns ways q x before.lists
        → HaveBeenRemoved ways names failed before after s t told now → Passes q ways x after s t
    all_removed [] none failed before after s t told now owns run = passes_same q ways x before after s t run.1 run.2 owns
    all_removed (name ∷ names) none failed before after s t told now owns run =
        let first = removed_or_gone name (λ e. none (zero, omega arith, sym e)) run.0 before run.2 s run.3 told run.4 owns run.6 in
        passes_then q ways x run.2 after s run.3 t first
        (all_removed names (λ later. none (Contains-append_right (name ∷ []) names x.name later)) run.1 run.2 after run.3 t run.4 now first.owns run.7)

    -- one disappears
    module _ (incoming version : List ℕ) where
      disappeared_passes : (l : Losing) → x.name ≢ l.name → (failed : Option Call) (before after : Holding) (s t : State) (told now : List Called) → Owns ways q x before.lists
          → HasDisappeared incoming version ways l failed before after s t told now → Passes q ways x after s t
      disappeared_passes l other failed before after s t told now owns unit =
          let run = unit.run in
          let first = run_passes q packaged.outside l.name ways x other unit.call failed before before s run.mid told now
          (subst (AllIn (Leaves q packaged.outside)) (sym unit.plan.stages.calls) ((tt, tt), tt)) owns run.called in
          passes_then q ways x before after s run.mid t first
          (run_passes q packaged.outside l.name ways x other unit.gone None before after run.mid t now now
          (subst (AllIn (Leaves q packaged.outside)) (sym unit.plan.stages.goes) (((tt, (tt, (tt, (tt, tt)))), tt), tt)) first.owns run.taken)

      decided_passes : (l : Losing) → x.name ≢ l.name → (names : List (List ℕ)) (failed : Option Call) (before after : Holding) (s t : State) (told now : List Called) → Owns ways q x before.lists
          → IsDecided incoming version ways l names failed before after s t told now → Passes q ways x after s t
      decided_passes l other names failed before after s t told now owns (IsDecided.disappeared are unit) = disappeared_passes l other failed before after s t told now owns unit
      decided_passes l other names failed before after s t told now owns (IsDecided.stayed none no_failure unit) =
          subst (λ (h : Holding). Passes q ways x h s t) (sym unit.same) (record { honest = unit.reads.honest; leaves = λ is. ap (λ w. w q) unit.reads.world; owns = owns })

      all_disappeared : (losing : List Losing) → ((l : Losing) → Contains losing l → x.name ≢ l.name) → (names : List (List ℕ)) (failed : Option Call) (before after : Holding) (s t : State) (told now : List Called)
          → Owns ways q x before.lists → HaveDisappeared incoming version ways losing names failed before after s t told now → Passes q ways x after s t
      all_disappeared [] others names failed before after s t told now owns run = passes_same q ways x before after s t run.2 run.3 owns
      all_disappeared (l ∷ ls) others names failed before after s t told now owns run =
          let first = decided_passes l (others l (zero, omega arith, refl)) run.own run.first before run.mid s run.m told run.between owns run.decided in
          passes_then q ways x run.mid after s run.m t first
          (all_disappeared ls (λ m there. others m (Contains-append_right (l ∷ []) ls m there)) run.more run.next run.mid after run.m t run.between now first.owns run.further)

      -- all that an unpack displaces
      to_disk : (losing : List Losing) (conflicting : List (List ℕ)) (h : Holding) (s t : State) → Owns ways q x h.lists → IsBroughtToDisk losing conflicting s t → Passes q ways x h s t
      to_disk [] [] h s t owns here = passes_same q ways x h h s t refl here owns
      to_disk [] (name ∷ names) h s t owns disk = record { honest = disk.honest; leaves = λ is. ap (λ w. w q) disk.world; owns = owns }
      to_disk (l ∷ ls) conflicting h s t owns disk = record { honest = disk.honest; leaves = λ is. ap (λ w. w q) disk.world; owns = owns }

      pub displaced_passes : (losing : List Losing) (conflicting displaced : List (List ℕ)) → ((l : Losing) → Contains losing l → x.name ≢ l.name) → (Contains conflicting x.name → ⊥) → (failed : Option Call) (before after : Holding) (s t : State)
          (told now : List Called) → Owns ways q x before.lists → HaveBeenDisplaced incoming version ways losing conflicting displaced failed before after s t told now → Passes q ways x after s t
      displaced_passes losing conflicting displaced others none failed before after s t told now owns has =
          let gone = has.gone in
          let first = all_disappeared losing others gone.gone gone.lost before gone.mid s gone.m told gone.between owns gone.disappeared in
          let second = all_removed conflicting none gone.removed.later gone.mid after gone.m has.end gone.between now first.owns gone.removed.removed in
          passes_then q ways x after after s has.end t (passes_then q ways x gone.mid after s gone.m has.end first second)
          (to_disk losing conflicting after has.end t second.owns has.disk)
