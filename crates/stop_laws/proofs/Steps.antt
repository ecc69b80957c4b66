-- How far a removal or a purge is at each moment.
use Rattle.std.proofs.Common.{◌≡◌, ◌⊎◌, inl, inr, Bool, true, false, cond, List, [], ◌∷◌, ◌++◌, Option, Some, None, refl, sym, ap, subst, ◌∙◌, append_assoc}
use Rattle.std.proofs.lemmas.Bool.{true≢false}
use Rattle.host_core.specs.Paths.{Path}
use Rattle.host_core.specs.World.{World, Change, changed, lowered}
use Rattle.host_core.specs.Events.{Event, IsDeniedIn, changes_of}
use Rattle.host_core.proofs.Scripts.{changed-append, changed_at, no_change}
use Rattle.host_core.specs.declared.node.Node.{Node}
use Rattle.administration.specs.Places.{home_path, is_within}
use Rattle.file_lists.specs.Owners.{paths_of}
use Rattle.status_db.specs.Held.{HasRecords}
use Rattle.status_db.specs.Recorded.{Recorded}
use Rattle.status_records.specs.Records.{put_record, record_in}
use Rattle.status_records.specs.declared.record.Record.{Record}
use Rattle.status_records.specs.declared.words.State.{State}
use Rattle.status_records.specs.declared.words.State.TheVariants as state
use Rattle.held_administration.specs.Order.{IsInOrder}
use Rattle.removal_engine.specs.Extents.{BeginsFrom}
use Rattle.removal_engine.specs.Lists.{IsToCome, leaving_files}
use Rattle.removal_engine.specs.Names.{cleared_names, purged_names, waiting_names}
use Rattle.removal_engine.specs.Records.{config_files, goes_at_once, half_configured, losing_files, purged, without_files}
use Rattle.removal_engine.specs.Stages.{Deed, Planned, files_stage, files_stages, gone_stage, last_stage, left_stage, prerm_stage, purge_stages, removal_stages, stages_from}
use Rattle.removal_engine.specs.Scripts.{stored_in}
use Rattle.removal_engine.specs.Units.{Given, IsAmidUnit, IsRemovable}
use Rattle.removal_engine.specs.declared.extent.Extent.{Extent}
use Rattle.removal_engine.specs.declared.extent.Extent.TheVariants.{Remove, Purge, InFavour}
use Rattle.removal_engine.specs.declared.scripts.Stored.{Stored}
use Rattle.removal_engine.proofs.Deeds.{deeds_records}
use Rattle.removal_engine.proofs.Tables.{put_own}
use Rattle.stop_laws.specs.Left.{IsLeft, IsRecorded, IsScripted}
use Rattle.stop_laws.specs.Removing.{GoesWithFiles, GoesWithPurge, IsListed}
use Rattle.stop_laws.specs.RemovalSteps.{HasBegunPurge, HasLost, HaveGone, IsAtStep, IsFirstRecord, IsLosing, IsLosingRecord, IsLostRecord, IsPurgedRecord}
use Rattle.stop_laws.proofs.Moments.{All, AllDone, AllIn, Amid, AmidStages, Done, IsBefore, IsCalled, IsInside}
use Rattle.stop_laws.proofs.Noted.{IsGood, NotesOwn, StandGood, all_good, amid_good, inside_good, stages_good}
use Rattle.stop_laws.proofs.Places.{outside_list, outside_member, outside_records, outside_spare}
use Rattle.stop_laws.proofs.Removals.{amid_at, comes_then, list_then, own_named, stored_then}
use Rattle.stop_laws.proofs.RemovalStages.{OfEnds, gone_all, left_all, purges_all}
use Rattle.stop_laws.proofs.Taken.{IsKeptOrGoing, IsSet, Sets, SetsOr, all_done_keep, amid_going, amid_keeps, inside_set, stages_set}

-- changes one after another, outside the administration's directory

pub scripted_then : (first second : Change) (u v w : World) → IsScripted first u v → IsScripted second v w → IsScripted (first ++ second) u w
scripted_then first second u v w before then q out =
    then q out ∙ changed_at second v (changed first u) q (before q out) ∙ ap (λ (x : World). x q) (sym (changed-append first second u))

-- nothing outside is changed
abbrev pub IsSame : World → World → Type 0
IsSame v w = IsScripted [] v w

scripted_same : (change : Change) (u v w : World) → IsSame u v → IsScripted change v w → IsScripted change u w
scripted_same change u v w first then = scripted_then [] change u v w first then

same_scripted : (change : Change) (u v w : World) → IsScripted change u v → IsSame v w → IsScripted change u w
same_scripted change u v w first then q out = then q out ∙ first q out

module _ (g : Given) (r : Record) (named : r.name ≡ g.name) (stored : Stored) (declined : Path → Type 0) where
  -- the same, where it all happened since some calls were made

  since_lost : (early late : Change) (old v now : World) → IsScripted early old v → HasLost g r stored declined v late now → HasLost g r stored declined old (early ++ late) now
  since_lost early late old v now before has = record {
    early = early ++ has.early;
    late = has.late;
    changes = ap (λ (c : Change). early ++ c) has.changes ∙ sym (append_assoc early has.early has.late);
    before = has.before;
    gone = has.gone;
    was = scripted_then early has.early old v has.before before has.was;
    files = has.files;
    since = has.since;
  }

  since_purge : (c : Record) (listed : List Path) (early late : Change) (old v now : World) → IsScripted early old v → HasBegunPurge g r stored declined v c listed late now → HasBegunPurge g r stored declined old c listed (early ++ late) now
  since_purge c listed early late old v now before (HasBegunPurge.found state is at scripted) = HasBegunPurge.found state is at (scripted_then early late old v now before scripted)
  since_purge c listed early late old v now before (HasBegunPurge.left is comes lost) = HasBegunPurge.left is comes (since_lost early late old v now before lost)

  since_losing : (early late : Change) (old v now : World) → IsScripted early old v → IsLosing g r stored declined v late now → IsLosing g r stored declined old (early ++ late) now
  since_losing early late old v now before losing q out = elim (losing q out) [
    | inl is ↦ inl (is ∙ changed_at late v (changed early old) q (before q out) ∙ ap (λ (x : World). x q) (sym (changed-append early late old)))
    | inr went ↦ elim went [
      | inl gone ↦ inr (inl gone)
      | inr going ↦ inr (inr (
        going.0,
        going.1 ∙ ap lowered (changed_at late v (changed early old) q (before q out) ∙ ap (λ (x : World). x q) (sym (changed-append early late old))),
      ))
    ]
  ]

  since_step : (early late : Change) (old v now : World) → IsScripted early old v → IsAtStep g r stored declined v late now → IsAtStep g r stored declined old (early ++ late) now
  since_step early late old v now before (IsAtStep.begun is scripted) = IsAtStep.begun is (scripted_then early late old v now before scripted)
  since_step early late old v now before (IsAtStep.losing is losing) = IsAtStep.losing is (since_losing early late old v now before losing)
  since_step early late old v now before (IsAtStep.lost is lost) = IsAtStep.lost is (since_lost early late old v now before lost)
  since_step early late old v now before (IsAtStep.purging purges c listed is first second are start has left) =
      IsAtStep.purging purges c listed is (early ++ first) second (ap (λ (x : Change). early ++ x) are ∙ sym (append_assoc early first second)) start (since_purge c listed early first old v start before has) left

  -- scripts ran on behind the files
  lost_then : (first second : Change) (old v w : World) → HasLost g r stored declined old first v → IsScripted second v w → HasLost g r stored declined old (first ++ second) w
  lost_then first second old v w has then = record {
    early = has.early;
    late = has.late ++ second;
    changes = ap (λ (c : Change). c ++ second) has.changes ∙ append_assoc has.early has.late second;
    before = has.before;
    gone = has.gone;
    was = has.was;
    files = has.files;
    since = scripted_then has.late second has.gone v w has.since then;
  }

  -- records

  recorded : (P : Option Record → Type 0) (first : List Record) (now : World) → StandGood g.name first P now → IsRecorded g.name P now
  recorded P first now is = record { table = is.table; records = is.records; own = is.good.own }

  recorded_by : (P : Option Record → Type 0) (rs : List Record) (now : World) → HasRecords now rs → P (record_in rs g.name) → IsRecorded g.name P now
  recorded_by P rs now has own = record { table = rs; records = has; own = own }

  good_now : (P : Option Record → Type 0) (rs : List Record) → P (record_in rs g.name) → IsGood g.name rs P rs
  good_now P rs is = record { own = is; others = λ q other. refl }

  module _ (to_come : List Path) where
    -- what the deeds behind the files do outside, and what they note
    module _ (q : Path) (out : is_within home_path q ≡ false) (V : Option Node → Type 0) where
      listing : (paths : List Path) → Sets g.name q V (Deed.Lists paths)
      listing paths = (outside_spare q out g.name, λ is. absurd (outside_list q out g.name is))

      pub ends_outside : OfEnds (Sets g.name q V) g.ways g.before.lists r stored to_come
      ends_outside = record {
        left = outside_records q out;
        members = λ keep. inl (λ member is. outside_member q out g.name member);
        bare = listing [];
        unlisted = λ is. absurd (outside_list q out g.name is);
        forgotten = outside_records q out;
      }

    -- a purge

    module _ (c : Record) (listed : List Path) (c_named : c.name ≡ g.name) where
      abbrev Went : Path → Option Node → Type 0
      Went q there = GoesWithPurge g r stored c listed q × (there ≡ None)

      purge_outside : (q : Path) (out : is_within home_path q ≡ false) → AllIn (Sets g.name q (Went q)) (purge_stages g.ways g.before.lists c stored listed)
      purge_outside q out =
          purges_all (Sets g.name q (Went q)) g.ways g.before.lists c stored to_come
          (record {
            left = outside_records q out;
            members = λ keep. inl (λ member is. outside_member q out g.name member);
            bare = listing q out (Went q) [];
            unlisted = λ is. absurd (outside_list q out g.name is);
            forgotten = outside_records q out;
          })
          c listed
          (record {
            noted = outside_records q out;
            names = λ is. (GoesWithPurge.conffile is, refl);
            directories = λ is. (GoesWithPurge.directory is, refl);
          })

      purge_left : (rs : List Record) (start : World) (late : Change) (now : World) → AmidStages g.name declined (purge_stages g.ways g.before.lists c stored listed) rs start late now → (q : Path) → is_within home_path q ≡ false → IsLeft q (GoesWithPurge g r stored c listed q) late start now
      purge_left rs start late now is q out = by (stages_set g.name q (Went q) declined (purge_stages g.ways g.before.lists c stored listed) rs start late now (purge_outside q out) is)
        where
          by : IsSet g.name q (Went q) late start now → IsLeft q (GoesWithPurge g r stored c listed q) late start now
          by (IsSet.stood at) = IsLeft.stood at
          by (IsSet.left early more are mid has at) = IsLeft.went has.0 early more are mid has.1 at

      abbrev Purged : Option Record → Type 0
      Purged = IsPurgedRecord c

      -- the deeds behind its note
      purge_notes : (first : List Record) → All (NotesOwn g.name first Purged) (last_stage g.ways g.before.lists c listed).parts
      purge_notes first = ((tt, tt), ((tt, tt), ((tt, tt), ((tt, tt), ((tt, inr refl), tt)))))

      clear_notes : (first : List Record) → All (NotesOwn g.name first Purged) (Deed.Clears (purged_names g.ways g.before.lists c) ∷ [])
      clear_notes first = ((tt, tt), tt)

      noted_purged : (rs : List Record) → IsGood g.name (put_record (purged c) rs) Purged (put_record (purged c) rs)
      noted_purged rs = good_now Purged (put_record (purged c) rs) (inl (put_own (purged c) rs g.name c_named))

      -- before its note, or from then on
      abbrev Noting : List Record → World → Change → World → Type 0
      Noting rs start late now = (HasRecords now rs × IsScripted late start now) ⊎ IsRecorded g.name Purged now

      purge_recorded : (rs : List Record) (start : World) (late : Change) (now : World) → AmidStages g.name declined (purge_stages g.ways g.before.lists c stored listed) rs start late now → Noting rs start late now
      purge_recorded rs start late now (inl before) = inl (before.records, λ q out. ap (λ (x : World). x q) before.same ∙ ap (λ d. changed d start q) (sym before.none))
      purge_recorded rs start late now (inr (inl (IsInside.in_parts none (inl here)))) = elim here.records [
        | inl before ↦ inl (before, λ q out. here.may.rest q (outside_records q out) ∙ ap (λ d. changed d start q) (sym none))
        | inr after ↦ inr (recorded_by Purged (put_record (purged c) rs) now after (inl (put_own (purged c) rs g.name c_named)))
      ]
      purge_recorded rs start late now (inr (inl (IsInside.in_parts none (inr behind)))) =
          let then = put_record (purged c) rs in
          inr (recorded Purged then now (amid_good g.name then Purged declined (Deed.Clears (purged_names g.ways g.before.lists c) ∷ []) then behind.mid now (clear_notes then) (noted_purged rs) behind.further))
      purge_recorded rs start late now (inr (inl (IsInside.in_calls ready done (IsCalled.on_calls same has)))) = inr (recorded_by Purged (put_record (purged c) rs) now has (inl (put_own (purged c) rs g.name c_named)))
      purge_recorded rs start late now (inr (inl (IsInside.in_calls ready done (IsCalled.on_restore called same over)))) = inr (recorded_by Purged (put_record (purged c) rs) now over.records (inl (put_own (purged c) rs g.name c_named)))
      purge_recorded rs start late now (inr (inr passed)) =
          let then = put_record (purged c) rs in
          inr (recorded Purged then now (stages_good g.name then Purged declined (last_stage g.ways g.before.lists c listed ∷ []) then (changed passed.early passed.ready) passed.late now ((purge_notes then, tt), tt) (noted_purged rs) passed.further))

      -- behind what came before, from where a purge begins
      purge_steps : g.extent ≡ Purge → (early late : Change) (old start now : World) (rs : List Record) → HasBegunPurge g r stored declined old c listed early start → (HasRecords now rs → IsScripted late start now → IsAtStep g r stored declined old (early ++ late) now)
          → AmidStages g.name declined (purge_stages g.ways g.before.lists c stored listed) rs start late now → IsAtStep g r stored declined old (early ++ late) now
      purge_steps purges early late old start now rs begun still is = elim (purge_recorded rs start late now is) [
        | inl before ↦ still before.0 before.1
        | inr noted ↦ IsAtStep.purging purges c listed noted early late refl start begun (purge_left rs start late now is)
      ]

    -- a removal, behind its files

    module _ (comes : IsToCome r stored to_come) where
      abbrev Lost : Option Record → Type 0
      Lost = IsLostRecord r

      -- the deeds behind the files touch nothing outside
      none_outside : (ds : List Deed) (rs : List Record) (v w : World) → ((q : Path) (out : is_within home_path q ≡ false) → All (Sets g.name q (λ (there : Option Node). ⊥)) ds) → Amid g.name declined ds rs v w → IsSame v w
      none_outside ds rs v w sets amid q out = by (amid_keeps g.name q (λ (there : Option Node). ⊥) declined ds rs v w (sets q out) amid)
        where
          by : (w q ≡ v q) ⊎ ⊥ → w q ≡ v q
          by (inl same) = same
          by (inr none) = absurd none

      inside_outside : (p : Planned) (rs : List Record) (v : World) (change : Change) (w : World) → ((q : Path) (out : is_within home_path q ≡ false) → All (Sets g.name q (λ (there : Option Node). ⊥)) p.parts) → p.restore ≡ []
          → IsInside g.name declined p rs v change w → IsScripted change v w
      inside_outside p rs v change w sets none inside q out =
          by (inside_set g.name q (λ (there : Option Node). ⊥) declined p rs v change w (sets q out) (subst (All (Sets g.name q (λ (there : Option Node). ⊥))) (sym none) tt) inside)
        where
          by : IsSet g.name q (λ (there : Option Node). ⊥) change v w → w q ≡ changed change v q
          by (IsSet.stood is) = is
          by (IsSet.left early late are mid has is) = absurd has

      done_outside : (ds : List Deed) (rs : List Record) (v w : World) → ((q : Path) (out : is_within home_path q ≡ false) → All (Sets g.name q (λ (there : Option Node). ⊥)) ds) → AllDone g.name declined ds rs v w → IsSame v w
      done_outside ds rs v w sets done q out = by (all_done_keep g.name q (λ (there : Option Node). ⊥) declined ds rs v w (sets q out) done)
        where
          by : (w q ≡ v q) ⊎ ⊥ → w q ≡ v q
          by (inl same) = same
          by (inr none) = absurd none

      gone_outside : (q : Path) (out : is_within home_path q ≡ false) → All (Sets g.name q (λ (there : Option Node). ⊥)) (gone_stage r).parts
      gone_outside q out = gone_all (Sets g.name q (λ (there : Option Node). ⊥)) g.ways g.before.lists r stored to_come (ends_outside q out (λ (there : Option Node). ⊥))

      left_outside : (q : Path) (out : is_within home_path q ≡ false) → All (Sets g.name q (λ (there : Option Node). ⊥)) (left_stage r).parts
      left_outside q out = left_all (Sets g.name q (λ (there : Option Node). ⊥)) g.ways g.before.lists r stored to_come (ends_outside q out (λ (there : Option Node). ⊥))

      gone_notes : (first : List Record) → All (NotesOwn g.name first Lost) (gone_stage r).parts
      gone_notes first = ((tt, tt), ((tt, tt), ((tt, tt), ((tt, inr (inr refl)), tt))))

      left_notes : (first : List Record) → All (NotesOwn g.name first Lost) (left_stage r).parts
      left_notes first = ((tt, tt), ((named, inr (inl refl)), tt))

      -- what was lost before these stages is still lost
      module _ (early : Change) (old start : World) (lost : HasLost g r stored declined old early start) where
        still_lost : (late : Change) (now : World) → IsRecorded g.name Lost now → IsScripted late start now → IsAtStep g r stored declined old (early ++ late) now
        still_lost late now is scripted = IsAtStep.lost is (lost_then early late old start now lost scripted)

        before_lost : (rs : List Record) (late : Change) (now : World) → Lost (record_in rs g.name) → IsBefore g.name declined rs start late now → IsAtStep g r stored declined old (early ++ late) now
        before_lost rs late now own before =
            still_lost late now (recorded_by Lost rs now before.records own) (λ q out. ap (λ (x : World). x q) before.same ∙ ap (λ d. changed d start q) (sym before.none))

        inside_lost : (p : Planned) (rs : List Record) (late : Change) (now : World) → Lost (record_in rs g.name) → All (NotesOwn g.name rs Lost) p.parts → p.restore ≡ []
            → ((q : Path) (out : is_within home_path q ≡ false) → All (Sets g.name q (λ (there : Option Node). ⊥)) p.parts) → IsInside g.name declined p rs start late now → IsAtStep g r stored declined old (early ++ late) now
        inside_lost p rs late now own notes none sets inside =
            still_lost late now
            (recorded Lost rs now (inside_good g.name rs Lost declined p rs start late now notes (subst (All (NotesOwn g.name rs Lost)) (sym none) tt) (good_now Lost rs own) inside))
            (inside_outside p rs start late now sets none inside)

        gone_steps : (rs : List Record) (late : Change) (now : World) → Lost (record_in rs g.name) → AmidStages g.name declined (gone_stage r ∷ []) rs start late now → IsAtStep g r stored declined old (early ++ late) now
        gone_steps rs late now own (inl before) = before_lost rs late now own before
        gone_steps rs late now own (inr (inl inside)) = inside_lost (gone_stage r) rs late now own (gone_notes rs) refl gone_outside inside
        gone_steps rs late now own (inr (inr passed)) =
            let good = all_good g.name rs Lost (gone_stage r).parts rs (gone_notes rs) (good_now Lost rs own) in
            still_lost late now (recorded_by Lost (deeds_records g.name (gone_stage r).parts rs) now passed.further.records good.own)
            (subst (λ (c : Change). IsScripted c start now) (sym passed.changes)
            (scripted_then passed.early passed.late start (changed passed.early passed.ready) now
            (scripted_same passed.early start passed.ready (changed passed.early passed.ready) (done_outside (gone_stage r).parts rs start passed.ready gone_outside passed.done) (λ q out. refl))
            (λ q out. ap (λ (x : World). x q) passed.further.same ∙ ap (λ d. changed d (changed passed.early passed.ready) q) (sym passed.further.none))))

        -- from where its conffiles are all that is left
        behind_steps : (purge : Bool) → (purge ≡ true → g.extent ≡ Purge) → (rs : List Record) (late : Change) (now : World) → record_in rs g.name ≡ Some (config_files r)
            → AmidStages g.name declined (cond purge (purge_stages g.ways g.before.lists (config_files r) stored to_come) []) rs start late now → IsAtStep g r stored declined old (early ++ late) now
        behind_steps true purges rs late now own is =
            purge_steps (config_files r) to_come named (purges refl) early late old start now rs (HasBegunPurge.left refl comes lost)
            (λ has scripted. still_lost late now (recorded_by Lost rs now has (inr (inl own))) scripted) is
        behind_steps false purges rs late now own before = before_lost rs late now (inr (inl own)) before

      left_steps : (purge : Bool) → (purge ≡ true → g.extent ≡ Purge) → (early : Change) (old start : World) → HasLost g r stored declined old early start → (rs : List Record) (late : Change) (now : World) → Lost (record_in rs g.name)
          → AmidStages g.name declined (left_stage r ∷ cond purge (purge_stages g.ways g.before.lists (config_files r) stored to_come) []) rs start late now → IsAtStep g r stored declined old (early ++ late) now
      left_steps purge purges early old start lost rs late now own (inl before) = before_lost early old start lost rs late now own before
      left_steps purge purges early old start lost rs late now own (inr (inl inside)) = inside_lost early old start lost (left_stage r) rs late now own (left_notes rs) refl left_outside inside
      left_steps purge purges early old start lost rs late now own (inr (inr passed)) =
          let mid = changed passed.early passed.ready in
          let before : IsScripted passed.early start mid =
          scripted_same passed.early start passed.ready mid (done_outside (left_stage r).parts rs start passed.ready left_outside passed.done) (λ q out. refl) in
          subst (λ (c : Change). IsAtStep g r stored declined old c now) (append_assoc early passed.early passed.late ∙ ap (λ (c : Change). early ++ c) (sym passed.changes))
          (behind_steps (early ++ passed.early) old mid (lost_then early passed.early old start mid lost before) purge purges (deeds_records g.name (left_stage r).parts rs) passed.late now (put_own (config_files r) rs g.name named) passed.further)

      ends_steps : (at_once purge : Bool) → (purge ≡ true → g.extent ≡ Purge) → (early : Change) (old start : World) → HasLost g r stored declined old early start → (rs : List Record) (late : Change) (now : World) → Lost (record_in rs g.name)
          → AmidStages g.name declined (cond at_once (gone_stage r ∷ []) (left_stage r ∷ cond purge (purge_stages g.ways g.before.lists (config_files r) stored to_come) [])) rs start late now → IsAtStep g r stored declined old (early ++ late) now
      ends_steps true purge purges early old start lost rs late now own is = gone_steps early old start lost rs late now own is
      ends_steps false purge purges early old start lost rs late now own is = left_steps purge purges early old start lost rs late now own is

      -- with its files

      abbrev tail : List Deed
      tail = Deed.Clears (waiting_names g.ways r.name r.pending) ∷ Deed.Removes (leaving_files g.ways g.before.lists r to_come) ∷ Deed.Clears (cleared_names g.ways g.before.lists r) ∷ Deed.Lists to_come ∷ Deed.Notes (without_files r) ∷ []

      abbrev With : Path → Option Node → Type 0
      With q there = GoesWithFiles g r stored q × (there ≡ None)

      tail_outside : (q : Path) (out : is_within home_path q ≡ false) → All (SetsOr g.name q (With q) (IsListed g r stored q)) tail
      tail_outside q out = (
        (λ is. (GoesWithFiles.waiting is, refl)),
        (
          (λ is. ((GoesWithFiles.listed to_come comes is, refl), (to_come, comes, is))),
          ((λ is. (GoesWithFiles.beside is, refl)), (listing q out (With q) to_come, (outside_records q out, tt))),
        ),
      )

      -- the files went, and nothing else outside is changed
      record IsGoneBy (v w : World) : Type 0 where
        gone : World
        files : HaveGone g r stored declined v gone
        since : IsSame gone w

      abbrev GoneBefore : List Record → World → World → Type 0
      GoneBefore rs v now = HasRecords now rs ⊎ (IsGoneBy v now × HasRecords now (put_record (without_files r) rs))

      same_then : (u v w : World) → IsSame u v → IsSame v w → IsSame u w
      same_then u v w first then q out = then q out ∙ first q out

      module _ (rs : List Record) (v : World) where
        -- what waits went first, and then the paths
        record Removing (mid : World) : Type 0 where
          first : World
          waiting : Done g.name declined (Deed.Clears (waiting_names g.ways r.name r.pending)) rs v first
          paths : Done g.name declined (Deed.Removes (leaving_files g.ways g.before.lists r to_come)) rs first mid

        abbrev Clearing : World → World → Type 0
        Clearing mid gone = Done g.name declined (Deed.Clears (cleared_names g.ways g.before.lists r)) rs mid gone

        gone_by : (mid gone w : World) → Removing mid → Clearing mid gone → IsSame gone w → IsGoneBy v w
        gone_by mid gone w removed cleared since = record { gone = gone; files = record { to_come = to_come; comes = comes; first = removed.first; waiting = removed.waiting; mid = mid; removed = removed.paths; cleared = cleared }; since = since }

        listed_same : (gone w : World) → Done g.name declined (Deed.Lists to_come) rs gone w → IsSame gone w
        listed_same gone w done q out = done.rest q (outside_list q out g.name) (outside_spare q out g.name)

        -- before the note behind them, or from then on

        behind_list : (mid gone listed_at now : World) → Removing mid → Clearing mid gone → Done g.name declined (Deed.Lists to_come) rs gone listed_at → Amid g.name declined (Deed.Notes (without_files r) ∷ []) rs listed_at now → GoneBefore rs v now
        behind_list mid gone listed_at now removed cleared done (inl here) = elim here.records [
          | inl is ↦ inl is
          | inr is ↦ inr (gone_by mid gone now removed cleared (same_then gone listed_at now (listed_same gone listed_at done) (λ q out. here.may.rest q (outside_records q out))), is)
        ]
        behind_list mid gone listed_at now removed cleared done (inr behind) =
            let over = behind.further in
            inr (
              gone_by mid gone now removed cleared
                  (same_then gone listed_at now (listed_same gone listed_at done) (λ q out. ap (λ (x : World). x q) over.same ∙ behind.done.rest q (outside_records q out))),
              over.records,
            )

        behind_names : (mid gone now : World) → Removing mid → Clearing mid gone → Amid g.name declined (Deed.Lists to_come ∷ Deed.Notes (without_files r) ∷ []) rs gone now → GoneBefore rs v now
        behind_names mid gone now removed cleared (inl here) = elim here.records [ inl is ↦ inl is | inr is ↦ inl is ]
        behind_names mid gone now removed cleared (inr behind) = behind_list mid gone behind.mid now removed cleared behind.done behind.further

        behind_paths : (mid now : World) → Removing mid → Amid g.name declined (Deed.Clears (cleared_names g.ways g.before.lists r) ∷ Deed.Lists to_come ∷ Deed.Notes (without_files r) ∷ []) rs mid now → GoneBefore rs v now
        behind_paths mid now removed (inl here) = elim here.records [ inl is ↦ inl is | inr is ↦ inl is ]
        behind_paths mid now removed (inr behind) = behind_names mid behind.mid now removed behind.done behind.further

        behind_waiting : (first now : World) → Done g.name declined (Deed.Clears (waiting_names g.ways r.name r.pending)) rs v first
            → Amid g.name declined (Deed.Removes (leaving_files g.ways g.before.lists r to_come) ∷ Deed.Clears (cleared_names g.ways g.before.lists r) ∷ Deed.Lists to_come ∷ Deed.Notes (without_files r) ∷ []) rs first now → GoneBefore rs v now
        behind_waiting first now waiting (inl here) = elim here.records [ inl is ↦ inl is | inr is ↦ inl is ]
        behind_waiting first now waiting (inr behind) = behind_paths behind.mid now (record { first = first; waiting = waiting; paths = behind.done }) behind.further

        tail_amid : (now : World) → Amid g.name declined tail rs v now → GoneBefore rs v now
        tail_amid now (inl here) = elim here.records [ inl is ↦ inl is | inr is ↦ inl is ]
        tail_amid now (inr behind) = behind_waiting behind.mid now behind.done behind.further

        -- all done
        tail_done : (w : World) → AllDone g.name declined tail rs v w → IsGoneBy v w
        tail_done w done =
            let paths = done.2 in
            let cleared = paths.2 in
            let listed_at = cleared.2 in
            let noted = listed_at.2 in
            gone_by paths.0 cleared.0 w (record { first = done.0; waiting = done.1; paths = paths.1 }) cleared.1
            (same_then cleared.0 listed_at.0 w (listed_same cleared.0 listed_at.0 listed_at.1)
            (λ q out. ap (λ (x : World). x q) noted.2 ∙ noted.1.rest q (outside_records q out)))

      noted_same : (c : Record) (rs : List Record) (v w : World) → Done g.name declined (Deed.Notes c) rs v w → IsSame v w
      noted_same c rs v w done q out = done.rest q (outside_records q out)

      lost_since : (start mid now : World) (change : Change) (at : World) → IsSame start mid → IsGoneBy mid at → IsScripted change at now → HasLost g r stored declined start change now
      lost_since start mid now change at first gone then = record {
        early = [];
        late = change;
        changes = refl;
        before = mid;
        gone = gone.gone;
        was = first;
        files = gone.files;
        since = scripted_same change gone.gone at now gone.since then;
      }

      module _ (rs : List Record) (start : World) where
        abbrev marked : List Record
        marked = put_record (losing_files r) rs

        abbrev Unmarked : Type 0
        Unmarked = IsFirstRecord r (record_in rs g.name)

        own_marked : IsLosingRecord r (record_in marked g.name)
        own_marked = put_own (losing_files r) rs g.name named

        own_lost : IsLostRecord r (record_in (put_record (without_files r) marked) g.name)
        own_lost = inl (put_own (without_files r) marked g.name named)

        files_amid : (now : World) → Unmarked → Amid g.name declined (Deed.Notes (losing_files r) ∷ tail) rs start now → IsAtStep g r stored declined start [] now
        files_amid now own (inl here) = elim here.records [
          | inl before ↦ IsAtStep.begun (recorded_by (IsFirstRecord r) rs now before own) (λ q out. here.may.rest q (outside_records q out))
          | inr after ↦ IsAtStep.losing (recorded_by (IsLosingRecord r) marked now after own_marked) (λ q out. inl (here.may.rest q (outside_records q out)))
        ]
        files_amid now own (inr behind) = elim (tail_amid marked behind.mid now behind.further) [
          | inl before ↦ IsAtStep.losing (recorded_by (IsLosingRecord r) marked now before own_marked) (λ q out. losing_at q out (amid_going g.name q (With q) (IsListed g r stored q) declined tail marked behind.mid now (tail_outside q out) behind.further))
          | inr lost ↦ IsAtStep.lost (recorded_by Lost (put_record (without_files r) marked) now lost.1 own_lost) (lost_since start behind.mid now [] now (noted_same (losing_files r) rs start behind.mid behind.done) lost.0 (λ q out. refl))
        ]
          where
            losing_at : (q : Path) → is_within home_path q ≡ false → IsKeptOrGoing g.name q (With q) (IsListed g r stored q) behind.mid now
                → (now q ≡ start q) ⊎ ((GoesWithFiles g r stored q × (now q ≡ None)) ⊎ (IsListed g r stored q × (now q ≡ lowered (start q))))
            losing_at q out (inl (inl same)) = inl (same ∙ behind.done.rest q (outside_records q out))
            losing_at q out (inl (inr gone)) = inr (inl gone)
            losing_at q out (inr (listed, (mid, inl same, going))) = inr (inr (listed, going ∙ ap lowered (same ∙ behind.done.rest q (outside_records q out))))
            losing_at q out (inr (listed, (mid, inr gone, going))) = inr (inl (gone.0, going ∙ ap lowered gone.1))

        files_done : (ready : World) → AllDone g.name declined (Deed.Notes (losing_files r) ∷ tail) rs start ready → (now : World) (change : Change) → IsScripted change ready now → HasLost g r stored declined start change now
        files_done ready done now change then = lost_since start done.0 now change ready (noted_same (losing_files r) rs start done.0 done.1) (tail_done marked done.0 ready done.2) then

        files_inside : (change : Change) (now : World) → Unmarked → IsInside g.name declined (files_stage g.ways g.before.lists r stored to_come) rs start change now → IsAtStep g r stored declined start change now
        files_inside change now own (IsInside.in_parts none amid) = subst (λ (c : Change). IsAtStep g r stored declined start c now) (sym none) (files_amid now own amid)
        files_inside change now own (IsInside.in_calls ready done (IsCalled.on_calls same has)) =
            IsAtStep.lost (recorded_by Lost (put_record (without_files r) marked) now has own_lost) (files_done ready done now change (λ q out. ap (λ (x : World). x q) same))
        files_inside change now own (IsInside.in_calls ready done (IsCalled.on_restore called same over)) =
            IsAtStep.lost (recorded_by Lost (put_record (without_files r) marked) now over.records own_lost) (files_done ready done now change (λ q out. ap (λ (x : World). x q) (over.same ∙ same)))

        files_steps : (purge : Bool) → (purge ≡ true → g.extent ≡ Purge) → (change : Change) (now : World) → Unmarked → AmidStages g.name declined (files_stages g.ways g.before.lists r stored purge to_come) rs start change now → IsAtStep g r stored declined start change now
        files_steps purge purges change now own (inl before) =
            IsAtStep.begun (recorded_by (IsFirstRecord r) rs now before.records own) (λ q out. ap (λ (x : World). x q) before.same ∙ ap (λ d. changed d start q) (sym before.none))
        files_steps purge purges change now own (inr (inl inside)) = files_inside change now own inside
        files_steps purge purges change now own (inr (inr passed)) =
            subst (λ (c : Change). IsAtStep g r stored declined start c now) (sym passed.changes)
            (ends_steps (goes_at_once r stored) purge purges passed.early start (changed passed.early passed.ready)
            (files_done passed.ready passed.done (changed passed.early passed.ready) passed.early (λ q out. refl))
            (put_record (without_files r) marked) passed.late now own_lost passed.further)

      -- with the prerm, which is called before

      prerm_notes : (first : List Record) → All (NotesOwn g.name first (IsFirstRecord r)) (Deed.Notes (half_configured r) ∷ [])
      prerm_notes first = ((named, inr refl), tt)

      undo_notes : (first : List Record) → All (NotesOwn g.name first (IsFirstRecord r)) (Deed.Notes r ∷ [])
      undo_notes first = ((named, inl refl), tt)

      prerm_outside : (rs : List Record) (start : World) (change : Change) (now : World) → IsInside g.name declined (prerm_stage r stored) rs start change now → IsScripted change start now
      prerm_outside rs start change now inside q out =
          by (inside_set g.name q (λ (there : Option Node). ⊥) declined (prerm_stage r stored) rs start change now (outside_records q out, tt) (outside_records q out, tt) inside)
        where
          by : IsSet g.name q (λ (there : Option Node). ⊥) change start now → now q ≡ changed change start q
          by (IsSet.stood is) = is
          by (IsSet.left early late are mid has is) = absurd has

      prerm_steps : (rs : List Record) (old : World) (purge : Bool) → (purge ≡ true → g.extent ≡ Purge) → (change : Change) (now : World) → record_in rs g.name ≡ Some r
          → AmidStages g.name declined (prerm_stage r stored ∷ files_stages g.ways g.before.lists r stored purge to_come) rs old change now → IsAtStep g r stored declined old change now
      prerm_steps rs old purge purges change now own (inl before) =
          IsAtStep.begun (recorded_by (IsFirstRecord r) rs now before.records (inl own)) (λ q out. ap (λ (x : World). x q) before.same ∙ ap (λ d. changed d old q) (sym before.none))
      prerm_steps rs old purge purges change now own (inr (inl inside)) =
          IsAtStep.begun
          (recorded (IsFirstRecord r) rs now (inside_good g.name rs (IsFirstRecord r) declined (prerm_stage r stored) rs old change now (prerm_notes rs) (undo_notes rs) (good_now (IsFirstRecord r) rs (inl own)) inside))
          (prerm_outside rs old change now inside)
      prerm_steps rs old purge purges change now own (inr (inr passed)) =
          let mid = changed passed.early passed.ready in
          let noted = passed.done.1 in
          subst (λ (c : Change). IsAtStep g r stored declined old c now) (sym passed.changes)
          (since_step passed.early passed.late old mid now
          (scripted_same passed.early old passed.ready mid (λ q out. ap (λ (x : World). x q) passed.done.2 ∙ noted.rest q (outside_records q out)) (λ q out. refl))
          (files_steps (put_record (half_configured r) rs) mid purge purges passed.late now (inr (put_own (half_configured r) rs g.name named)) passed.further))

      found_steps : g.extent ≡ Purge → r.state ≡ state.ConfigFiles → (rs : List Record) (old : World) (change : Change) (now : World) → record_in rs g.name ≡ Some r
          → AmidStages g.name declined (purge_stages g.ways g.before.lists r stored (paths_of g.before.lists r.name)) rs old change now → IsAtStep g r stored declined old change now
      found_steps purges removed rs old change now own is =
          purge_steps r (paths_of g.before.lists r.name) named purges [] change old old now rs (HasBegunPurge.found removed refl refl (λ q out. refl))
          (λ has scripted. IsAtStep.begun (recorded_by (IsFirstRecord r) rs now has (inl own)) scripted) is

      module _ (rs : List Record) (old : World) (change : Change) (now : World) (found : record_in rs g.name ≡ Some r) where
        from_steps : (s : State) → r.state ≡ s → (purge : Bool) → (purge ≡ true → g.extent ≡ Purge) → (r.state ≡ state.ConfigFiles → g.extent ≡ Purge) → AmidStages g.name declined (stages_from g.ways g.before.lists s r stored purge to_come) rs old change now → IsAtStep g r stored declined old change now
        from_steps state.NotInstalled at purge purges removed is = files_steps rs old purge purges change now (inl found) is
        from_steps state.ConfigFiles at purge purges removed is = found_steps (removed at) at rs old change now found is
        from_steps state.HalfInstalled at purge purges removed is = files_steps rs old purge purges change now (inl found) is
        from_steps state.Unpacked at purge purges removed is = files_steps rs old purge purges change now (inl found) is
        from_steps state.HalfConfigured at purge purges removed is = prerm_steps rs old purge purges change now found is
        from_steps state.Installed at purge purges removed is = prerm_steps rs old purge purges change now found is

        never : {X : Type 0} → false ≡ true → X
        never e = absurd (true≢false (sym e))

        pub extent_steps : (extent : Extent) → g.extent ≡ extent → BeginsFrom extent r.state → AmidStages g.name declined (removal_stages g.ways g.before.lists extent r stored to_come) rs old change now → IsAtStep g r stored declined old change now
        extent_steps Remove at begins is = from_steps r.state refl false (λ e. never e) (λ e. absurd (begins e)) is
        extent_steps Purge at begins is = from_steps r.state refl true (λ e. at) (λ e. at) is
        extent_steps InFavour at begins is = files_steps rs old false (λ e. never e) change now (inl found) is

-- at each moment of a unit

pub removal_steps : (g : Given) (removable : IsRemovable g.extent g.before.records g.name) (d : Recorded) (old now : World) (so_far : List Event) → IsInOrder d g.before.lists old → d.records ≡ g.before.records
    → IsAmidUnit g old so_far now → IsAtStep g removable.entry (stored_in g.name old) (IsDeniedIn so_far) old (changes_of so_far) now
removal_steps g removable d old now so_far order same (inl looks) =
    IsAtStep.begun (record { table = g.before.records; records = subst (λ (w : World). HasRecords w g.before.records) (sym looks.0) (subst (HasRecords old) same order.kept.holds); own = inl removable.found })
    (λ q out. ap (λ (w : World). w q) looks.0 ∙ ap (λ c. changed c old q) (sym (no_change so_far looks.1)))
removal_steps g removable d old now so_far order same (inr amid) =
    extent_steps g removable.entry (own_named g removable) (stored_then g removable old now so_far amid) (IsDeniedIn so_far) (list_then g removable old now so_far amid) (comes_then g removable old now so_far amid)
    g.before.records old (changes_of so_far) now removable.found g.extent refl removable.begins (amid_at g removable old now so_far amid)
