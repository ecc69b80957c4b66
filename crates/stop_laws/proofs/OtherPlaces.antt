-- What a removal doesn't take away: what stands at places of other packages.
use Rattle.std.proofs.Common.{◌≡◌, ◌||◌, ◌&&◌, inl, inr, not, ℕ, Bool, true, false, cond, List, [], ◌∷◌, ◌++◌, filter, refl, sym, ap, subst, ◌∙◌}
use Rattle.std.specs.List.{flat_map, list_any}
use Rattle.std.specs.Str.{bytes_eq}
use Rattle.std.proofs.lemmas.Bool.{and_parts, true≢false}
use Rattle.std.proofs.lemmas.List.Folds.{list_any-append}
use Rattle.std.proofs.lemmas.Slice.Eq.{bytes_eq-Decides}
use Rattle.host_core.specs.Paths.{Path, has_reserved_suffix}
use Rattle.host_core.specs.World.{World, changed}
use Rattle.host_core.specs.Events.{Event, changes_of}
use Rattle.host_core.proofs.Scripts.{changed_kept}
use Rattle.host_core.specs.Suffixes.{suffix_text}
use Rattle.host_core.specs.declared.suffix.Suffix.TheVariants.{New, Tmp, Inst}
use Rattle.host_core.proofs.ShipNames.{plain_other}
use Rattle.administration.specs.Places.{home_path, is_within}
use Rattle.diversions.specs.Ways.{is_led_to, place, Ways}
use Rattle.file_lists.specs.Owners.{paths_of, has_other_owner}
use Rattle.file_lists.specs.declared.paths.PackageList.{PackageList}
use Rattle.file_removal.specs.Clearing.{is_among}
use Rattle.list_changes.specs.Clearable.{clearable, is_clearable}
use Rattle.list_changes.specs.Leaving.{is_place_of, leaving_of}
use Rattle.status_records.specs.declared.entries.ConffileEntry.{ConffileEntry}
use Rattle.status_records.specs.declared.entries.PendingDigest.{PendingDigest}
use Rattle.status_records.specs.declared.record.Record.{Record}
use Rattle.listed_files.specs.Areas.{is_leaving_place}
use Rattle.removal_engine.specs.Names.{cleared_names, ownerless, purged_names, side_names, side_names_at, unpack_names, waiting_names}
use Rattle.removal_engine.specs.Records.{entry_paths}
use Rattle.removal_engine.specs.Scripts.{stored_in}
use Rattle.removal_engine.specs.Units.{Given, IsAmidUnit, IsRemovable}
use Rattle.removal_engine.specs.declared.scripts.Stored.{Stored}
use Rattle.stop_laws.specs.Left.{IsLeft, IsLeftOrGoing}
use Rattle.stop_laws.specs.Removing.{GoesWithFiles, GoesWithPurge, IsListed, IsPurgedFrom, MayGo}
use Rattle.stop_laws.proofs.Others.{others_avoided}
use Rattle.stop_laws.proofs.Removals.{own_named, removal_left}

none_or : (a b : Bool) → (a ≡ true → ⊥) → (b ≡ true → ⊥) → a || b ≡ true → ⊥
none_or true b first second is = first refl
none_or false b first second is = second is

module _ (q : Path) where
  abbrev IsNone : List Path → Type 0
  IsNone names = is_among names q ≡ true → ⊥

  none_append : (xs ys : List Path) → IsNone xs → IsNone ys → IsNone (xs ++ ys)
  none_append xs ys first second is = none_or (is_among xs q) (is_among ys q) first second (sym (list_any-append (bytes_eq q) xs ys) ∙ is)

  none_flat : {X : Type 0} (f : X → List Path) → ((x : X) → IsNone (f x)) → (xs : List X) → IsNone (flat_map f xs)
  none_flat f all [] = λ is. true≢false (sym is)
  none_flat f all (x ∷ xs) = none_append (f x) (flat_map f xs) (all x) (none_flat f all xs)

  none_filter : (P : Path → Bool) (xs : List Path) → IsNone xs → IsNone (filter P xs)
  none_filter P [] none = none
  none_filter P (x ∷ xs) none = by (P x) (none_filter P xs (λ is. none (later (bytes_eq q x) (is_among xs q) is)))
    where
      later : (a b : Bool) → b ≡ true → a || b ≡ true
      later true b is = refl
      later false b is = is

      first : (a b : Bool) → a ≡ true → a || b ≡ true
      first true b is = refl
      first false b is = absurd (true≢false (sym is))

      by : (b : Bool) → IsNone (filter P xs) → IsNone (cond b (x ∷ filter P xs) (filter P xs))
      by true rest = none_or (bytes_eq q x) (is_among (filter P xs) q) (λ is. none (first (bytes_eq q x) (is_among xs q) is)) rest
      by false rest = rest

  none_unless : (b : Bool) (xs : List Path) → IsNone xs → IsNone (cond b [] xs)
  none_unless true xs none = λ is. true≢false (sym is)
  none_unless false xs none = none

  -- a name without a reserved ending is none beside a place
  module _ (plain : has_reserved_suffix q ≡ false) (ways : Ways) where
    not_beside : (at : Path) → IsNone (clearable (unpack_names at))
    not_beside at = none_filter is_clearable (unpack_names at)
        (none_or (bytes_eq q (at ++ suffix_text Inst)) _ (λ is. plain_other q at Inst plain ((bytes_eq-Decides q (at ++ suffix_text Inst)).0 is))
        (none_or (bytes_eq q (at ++ suffix_text Tmp)) false (λ is. plain_other q at Tmp plain ((bytes_eq-Decides q (at ++ suffix_text Tmp)).0 is)) (λ is. true≢false (sym is))))

    not_waiting : (at : Path) → IsNone (clearable ((at ++ suffix_text New) ∷ []))
    not_waiting at = none_filter is_clearable ((at ++ suffix_text New) ∷ [])
        (none_or (bytes_eq q (at ++ suffix_text New)) false (λ is. plain_other q at New plain ((bytes_eq-Decides q (at ++ suffix_text New)).0 is)) (λ is. true≢false (sym is)))

    not_cleared : (lists : List PackageList) (r : Record) → IsNone (cleared_names ways lists r)
    not_cleared lists r =
        none_flat (λ (path : Path). cond (list_any (bytes_eq path) (entry_paths r.conffiles)) [] (clearable (unpack_names (place ways r.name path))))
        (λ path. none_unless (list_any (bytes_eq path) (entry_paths r.conffiles)) (clearable (unpack_names (place ways r.name path))) (not_beside (place ways r.name path))) (paths_of lists r.name)

    none_waits : (r : Record) → IsNone (waiting_names ways r.name r.pending)
    none_waits r = none_flat (λ (d : PendingDigest). clearable ((place ways r.name d.path ++ suffix_text New) ∷ [])) (λ d. not_waiting (place ways r.name d.path)) r.pending

  -- nor is a place of another package one that goes
  module _ (ways : Ways) (lists : List PackageList) (name : List ℕ) (owned : has_other_owner ways lists name q ≡ true) where
    not_kept : (xs : List Path) → IsNone (filter (λ p. not (has_other_owner ways lists name p)) xs)
    not_kept [] = λ is. true≢false (sym is)
    not_kept (x ∷ xs) = by (has_other_owner ways lists name x) refl (not_kept xs)
      where
        by : (b : Bool) → has_other_owner ways lists name x ≡ b → IsNone (filter (λ p. not (has_other_owner ways lists name p)) xs) → IsNone (cond (not b) (x ∷ filter (λ p. not (has_other_owner ways lists name p)) xs) (filter (λ p. not (has_other_owner ways lists name p)) xs))
        by true is rest = rest
        by false is rest = none_or (bytes_eq q x) _ (λ same. true≢false (sym owned ∙ ap (has_other_owner ways lists name) ((bytes_eq-Decides q x).0 same) ∙ is)) rest

    not_purged : (r : Record) → r.name ≡ name → IsNone (purged_names ways lists r)
    not_purged r named =
        none_flat (λ (e : ConffileEntry). side_names_at ways lists r.name (place ways r.name e.path))
        (λ e. none_unless (has_other_owner ways lists r.name (place ways r.name e.path)) (ownerless ways lists r.name (side_names (place ways r.name e.path)))
        (subst (λ (n : List ℕ). IsNone (ownerless ways lists n (side_names (place ways r.name e.path)))) (sym named) (not_kept (clearable (side_names (place ways r.name e.path)))))) r.conffiles

    last_true : (a b c d : Bool) → d ≡ true → not (a || (b || (c || d))) ≡ true → ⊥
    last_true true b c d is goes = true≢false (sym goes)
    last_true false true c d is goes = true≢false (sym goes)
    last_true false false true d is goes = true≢false (sym goes)
    last_true false false false d is goes = true≢false (sym goes ∙ ap not is)

    -- one of the outer tests: it is a conffile, or its place stays
    goes_never : (conffile a b c d : Bool) → d ≡ true → not (conffile || (a || (b || (c || d)))) ≡ true → ⊥
    goes_never true a b c d is goes = true≢false (sym goes)
    goes_never false a b c d is goes = last_true a b c d is goes

    not_leaving : (to_come conffiles xs : List Path) → is_leaving_place (leaving_of ways lists name to_come conffiles xs) q ≡ true → ⊥
    not_leaving to_come conffiles [] is = true≢false (sym is)
    not_leaving to_come conffiles (x ∷ xs) is =
        let at = place ways name x in
        none_or (not (list_any (bytes_eq x) conffiles || (is_led_to ways at || (is_within home_path at || (is_place_of ways name to_come at || has_other_owner ways lists name at)))) && bytes_eq q at) (is_leaving_place (leaving_of ways lists name to_come conffiles xs) q)
        (λ here. let parts = and_parts (not (list_any (bytes_eq x) conffiles || (is_led_to ways at || (is_within home_path at || (is_place_of ways name to_come at || has_other_owner ways lists name at))))) (bytes_eq q at) here in
        goes_never (list_any (bytes_eq x) conffiles) (is_led_to ways at) (is_within home_path at) (is_place_of ways name to_come at) (has_other_owner ways lists name at)
        (ap (has_other_owner ways lists name) (sym ((bytes_eq-Decides q at).0 parts.1)) ∙ owned) parts.0)
        (not_leaving to_come conffiles xs) is

module _ (g : Given) (removable : IsRemovable g.extent g.before.records g.name) (q : Path) (owned : has_other_owner g.ways g.before.lists g.name q ≡ true) (plain : has_reserved_suffix q ≡ false) where
  not_leaving_of : (r : Record) → r.name ≡ g.name → (to_come conffiles xs : List Path) → is_leaving_place (leaving_of g.ways g.before.lists r.name to_come conffiles xs) q ≡ true → ⊥
  not_leaving_of r named to_come conffiles xs is =
      not_leaving q g.ways g.before.lists g.name owned to_come conffiles xs (subst (λ (n : List ℕ). is_leaving_place (leaving_of g.ways g.before.lists n to_come conffiles xs) q ≡ true) named is)

  module _ (stored : Stored) where
    purged_named : (c : Record) (listed : List Path) → IsPurgedFrom g removable.entry stored c listed → c.name ≡ g.name
    purged_named c listed (IsPurgedFrom.found state is there) = ap (λ (x : Record). x.name) is ∙ own_named g removable
    purged_named c listed (IsPurgedFrom.left is comes) = ap (λ (x : Record). x.name) is ∙ own_named g removable

    never_goes : MayGo g removable.entry stored q → ⊥
    never_goes (MayGo.with_files (GoesWithFiles.listed to_come comes is)) = not_leaving_of removable.entry (own_named g removable) to_come (entry_paths removable.entry.conffiles) (paths_of g.before.lists removable.entry.name) is
    never_goes (MayGo.with_files (GoesWithFiles.beside is)) = not_cleared q plain g.ways g.before.lists removable.entry is
    never_goes (MayGo.with_files (GoesWithFiles.waiting is)) = none_waits q plain g.ways removable.entry is
    never_goes (MayGo.with_purge purges c listed from (GoesWithPurge.conffile is)) = not_purged q g.ways g.before.lists g.name owned c (purged_named c listed from) is
    never_goes (MayGo.with_purge purges c listed from (GoesWithPurge.directory is)) = not_leaving_of c (purged_named c listed from) [] (entry_paths c.conffiles) listed is

  module _ (out : is_within home_path q ≡ false) (old now : World) (so_far : List Event) where
    scripted : IsLeftOrGoing q (MayGo g removable.entry (stored_in g.name old) q) (IsListed g removable.entry (stored_in g.name old) q) (changes_of so_far) old now → now q ≡ changed (changes_of so_far) old q
    scripted (inl (IsLeft.stood is)) = is
    scripted (inl (IsLeft.went may early late are gone none is)) = absurd (never_goes (stored_in g.name old) may)
    scripted (inr (listed, going)) = absurd (never_goes (stored_in g.name old) (MayGo.with_files (GoesWithFiles.listed listed.0 listed.1 listed.2)))

    pub removal_keeps : IsAmidUnit g old so_far now → now q ≡ old q
    removal_keeps (inl looks) = ap (λ (w : World). w q) looks.0
    removal_keeps (inr amid) =
        scripted (removal_left g removable old now so_far q out (inr amid))
        ∙ changed_kept (has_other_owner g.ways g.before.lists g.name) (changes_of so_far) old (others_avoided g.name g.ways amid.stages g.before old so_far now amid.running) q owned
