-- The lists of the recorded packages, in the end of a unit.
use Rattle.std.proofs.Common.{◌≡◌, ◌≢◌, inl, inr, IsTrue, ℕ, zero, suc, Bool, true, false, cond, List, [], ◌∷◌, ◌++◌, Option, Some, None, is_some, length, map, nat_le, ◌+◌, ◌&&◌, take, refl, sym, ap, subst, ◌∙◌, arith, Contains}
use Rattle.std.specs.Prelude.{Result, Ok, Err, IfOk}
use Rattle.std.specs.Str.{bytes_eq, IsUtf8}
use Rattle.std.specs.List.{AllByRecursion}
use Rattle.std.proofs.lemmas.Bool.{true≢false, false_from_ne_true, cond-true, cond-false}
use Rattle.std.proofs.lemmas.List.{length-append, length-map, map-append}
use Rattle.std.proofs.lemmas.List.Elements.{Contains-append_cases}
use Rattle.std.proofs.lemmas.Slice.Eq.{bytes_eq-Decides}
use Rattle.std.proofs.Math.Logic.{∥∥₁_map}
use Rattle.host_core.specs.Paths.{Path}
use Rattle.host_core.specs.World.{World, is_kept}
use Rattle.host_core.specs.Events.{changes_of}
use Rattle.host_core.specs.Host.{State, Needs}
use Rattle.host_core.proofs.Scripts.{changed_kept}
use Rattle.host_core.proofs.Paths.{decide}
use Rattle.administration.specs.Places.{list_path}
use Rattle.undo_rows.specs.declared.fall.Fall.{Fall}
use Rattle.undo_rows.specs.declared.rows.Called.{Called}
use Rattle.undo_rows.specs.declared.failed.Failed.{Failed}
use Rattle.undo_rows.specs.Place.{Place, Forward, Back, is_declined}
use Rattle.undo_rows.specs.Transcripts.{Ended, Committed, Unwound}
use Rattle.control_members.proofs.Apart.{no_list, no_list_temporary}
use Rattle.file_lists.specs.Lists.{HasLists}
use Rattle.file_lists.specs.Owners.{IsListable, paths_of}
use Rattle.file_lists.specs.Writing.{left_paths, list_file, with_list}
use Rattle.file_lists.specs.declared.paths.PackageList.{PackageList}
use Rattle.file_lists.proofs.Increasing.{all_from}
use Rattle.file_lists.proofs.TakingAll.{paths_with}
use Rattle.status_db.specs.Recorded.{Recorded}
use Rattle.status_records.specs.Records.{record_in}
use Rattle.status_records.specs.declared.record.Record.{Record}
use Rattle.unpack_rows.specs.EndStates.{end_of, end_record, is_preinst_reached, own_end, own_end_by, OwnUndo, NoneFailed, OfPrerm, OfPreinstOrPostrm}
use Rattle.unpack_rows.specs.Kinds.{kinds_of, last_kinds}
use Rattle.unpack_rows.specs.declared.kinds.RowKind.TheVariants.{Other}
use Rattle.unpack_rows.specs.Notes.{noted, notes_at}
use Rattle.unpack_rows.specs.Stages.{Stage, Unwritten, Wrote, Restored, has_files, stage_of}
use Rattle.unpack_rows.specs.declared.rows.Present.{Present}
use Rattle.unpack_rows.proofs.Ends.{end_table}
use Rattle.unpack_rows.proofs.Matching.{as_many}
use Rattle.unpack_steps.specs.At.{At, Holding}
use Rattle.unpack_steps.specs.Clearing.{IsBesideOwn, MayClear, is_gone}
use Rattle.unpack_steps.specs.Task.{Task, lists_at, state_on}
use Rattle.unpack_steps.specs.Trail.{HasCome}
use Rattle.unpack_commit.specs.Takeover.{losing_records, put_records, taken_places, yields_of}
use Rattle.unpack_commit.proofs.Left.{loser_list, other_list, own_list, same_list}
use Rattle.unpack_plan.specs.Planned.{IsPlanned, Planned}
use Rattle.unpack_plan.specs.Members.{scripts_in}
use Rattle.held_administration.specs.Order.{record_names}
use Rattle.unpack_engine.specs.Units.{BeginsAt, Given, HasBegun, HasCarriedOut, HasDropped, HasLeft, changes, commit_records, end_table as table_then, ground_of, job_of, last_place, package_name, task_from, unit_losers}
use Rattle.unpack_engine.proofs.Begun.{cleared_if, dropped_same}
use Rattle.unpack_engine.proofs.Cleared.{begun_at, begun_beside, works_on}
use Rattle.unpack_engine.proofs.EndNames.{both_recorded, has_record, is_recorded, losing_named, puts_keep, puts_last, puts_named}
use Rattle.unpack_engine.proofs.EndOthers.{end_for, recorded_still}
use Rattle.unpack_engine.proofs.Frames.{IsBeside, come_same, put_list}
use Rattle.unpack_engine.proofs.ListEnds.{IsListEnd, among, has_lists_end, listed_can, listed_texts, paths_spared, paths_taken, unlisted}
use Rattle.unpack_engine.proofs.Losing.{among_kept, loser_lists, loser_other}

-- the list of another package is none of the paths that a unit begins with, or that rows write
module _ (name own : List ℕ) (ne : name ≢ own) where
  list_beside : IsBeside (list_path own) (list_path name)
  list_beside = record { own = refl; below = refl; unnoted = refl; unlisted = λ e. ne (same_list name own e); unspared = λ e. no_list_temporary name (list_path own) e }

  list_apart : IsBesideOwn own (list_path name)
  list_apart = record { list = λ e. ne (same_list name own e); members = λ member is e. no_list own name member is (sym e) }

  not_own : bytes_eq name own ≡ false
  not_own = false_from_ne_true (bytes_eq name own) (λ t. ne ((bytes_eq-Decides name own).0 t))

  not_name : bytes_eq own name ≡ false
  not_name = false_from_ne_true (bytes_eq own name) (λ t. ne (sym ((bytes_eq-Decides own name).0 t)))

-- behind all rows of a package without a record its new preinst's is behind
enough : (n m : ℕ) → m ≡ n + 2 → nat_le (n + 1) m ≡ true
enough n m e = grind arith

bare_many : (others : List Record) → length (kinds_of None others) ≡ length others + 2
bare_many others = length-append (map (λ r. Other r) others) (last_kinds false) ∙ ap (λ n. n + 2) (length-map others (λ (r : Record). Other r))

bare_rows : (others : List Record) → nat_le (length others + 1) (length (kinds_of None others)) ≡ true
bare_rows others = enough (length others) (length (kinds_of None others)) (bare_many others)

-- nor is there a row of another package before the first
none_before : (n m : ℕ) → nat_le n m ≡ nat_le (0 + n) m
none_before n m = grind arith

module _ (G : Given) (stored : Present) (p : Planned) (plan : IsPlanned (job_of G stored) p) (places : List Path) where
  abbrev own : List ℕ
  own = package_name (ground_of G places) p

  abbrev names : List (List ℕ)
  names = record_names G.records

  rows_many : length p.rows ≡ length (kinds_of p.found p.others)
  rows_many = ap length plan.rows_are.rows_are ∙ as_many p.found p.incoming stored (scripts_in G.«package».scripts) G.others ∙ ap (λ os. length (kinds_of p.found os)) (sym plan.rows_are.others_are)

  found_is : p.found ≡ record_in G.records own
  found_is = plan.records_are.found_is ∙ ap (record_in G.records) (sym plan.records_are.own)

  fresh_own : p.fresh.name ≡ own
  fresh_own = plan.records_are.fresh_is.is.name_is ∙ sym plan.records_are.own

  -- where it had a record, its name is among those of before
  own_recorded : (r : Record) → p.found ≡ Some r → Contains names own
  own_recorded r is = is_recorded G.records own (ap is_some (sym found_is ∙ is))

  own_unrecorded : p.found ≡ None → Contains names own → ⊥
  own_unrecorded none has = true≢false (sym (has_record G.records own has) ∙ ap is_some (sym found_is ∙ none))

  none_end : (reached blamed : Bool) → reached ≡ false → own_end_by None p.incoming (cond (reached && blamed) OfPreinstOrPostrm NoneFailed) reached ≡ None
  none_end true blamed e = absurd (true≢false e)
  none_end false blamed e = refl

  own_none : (found : Option Record) → found ≡ None → (fall : Fall) (failed : List Failed) → is_preinst_reached found p.incoming p.others fall ≡ false → own_end found p.incoming p.others fall failed ≡ None
  own_none None e fall failed short = none_end (is_preinst_reached None p.incoming p.others fall) _ short
  own_none (Some r) e fall failed short = absurd cc

  not_reached : (found : Option Record) → found ≡ None → (fall : Fall) → is_gone found (length p.others) (Back 0 fall []) ≡ is_preinst_reached found p.incoming p.others fall
  not_reached None e fall = none_before (length p.others) fall.row
  not_reached (Some r) e fall = absurd cc

  all_rows : (found : Option Record) → found ≡ None → is_gone found (length p.others) (Forward (length (kinds_of found p.others))) ≡ true
  all_rows None e = bare_rows p.others
  all_rows (Some r) e = absurd cc

  module _ (begun last : State) (mid : Holding) (ended : Ended) (at : At (task_from (ground_of G places) p begun) mid last (last_place (ground_of G places) p ended)) where
    abbrev task : Task
    task = task_from (ground_of G places) p begun

    mid_record : (q : List ℕ) → record_in mid.database.records q ≡ end_record p.found p.incoming p.others G.records ended q
    mid_record q =
        ap (λ t. record_in t q) at.records
        ∙ ap (λ n. record_in (noted G.records (notes_at p.found p.incoming (kinds_of p.found p.others) (end_of n ended))) q) rows_many
        ∙ end_table p.found p.incoming p.others G.records at.sound.concerned ended q

    -- where it had no record before and has one then, nothing is left of what stood under its name
    reached_by : (e : Ended) → ended ≡ e → (b : Bool) → is_gone p.found (length p.others) (last_place (ground_of G places) p e) ≡ b → Contains (record_names mid.database.records) own → p.found ≡ None → b ≡ true
    reached_by e is true gone recorded none = refl
    reached_by Committed is false gone recorded none =
        absurd (true≢false (sym (ap (λ n. is_gone p.found (length p.others) (Forward n)) rows_many ∙ all_rows p.found none) ∙ gone))
    reached_by (Unwound fall failed) is false gone recorded none =
        let short = sym (not_reached p.found none fall) ∙ gone in
        absurd (true≢false (sym (has_record mid.database.records own recorded)
        ∙ ap is_some (mid_record own ∙ ap (λ e. end_record p.found p.incoming p.others G.records e own) is ∙ cond-true (bytes_eq own own) _ _ ((bytes_eq-Decides own own).1 refl) ∙ own_none p.found none fall failed short)))

    pub gone_recorded : Contains (record_names mid.database.records) own → p.found ≡ None → is_gone p.found (length p.others) (last_place (ground_of G places) p ended) ≡ true
    gone_recorded recorded none = reached_by ended refl _ refl recorded none

    pub gone_after : (after : List Record) → after ≡ table_then (ground_of G places) p ended mid.works mid.lists mid.database.records → Contains (record_names after) own → p.found ≡ None
        → is_gone p.found (length p.others) (last_place (ground_of G places) p ended) ≡ true
    gone_after after same recorded none = by ended refl same
      where
        by : (e : Ended) → ended ≡ e → after ≡ table_then (ground_of G places) p e mid.works mid.lists mid.database.records → is_gone p.found (length p.others) (last_place (ground_of G places) p e) ≡ true
        by Committed is noted = ap (λ n. is_gone p.found (length p.others) (Forward n)) rows_many ∙ all_rows p.found none
        by (Unwound fall failed) is kept = reached_by (Unwound fall failed) is _ refl (subst (λ rs. Contains (record_names rs) own) kept recorded) none

    -- whether another package is recorded stays
    mid_other : (q : List ℕ) → q ≢ own → is_some (record_in mid.database.records q) ≡ is_some (record_in G.records q)
    mid_other q ne = ap is_some (mid_record q) ∙ recorded_still G.records q p.others _ (end_for p.found p.incoming p.others G.records at.sound.concerned.recorded ended q ne)

    -- the lists of other packages, as the rows left them
    paths_mid : (q : List ℕ) → q ≢ own → paths_of mid.lists q ≡ paths_of G.lists q
    paths_mid q ne = ap (λ l. paths_of l q) at.lists ∙ by (stage_of (kinds_of p.found p.others) (last_place (ground_of G places) p ended))
      where
        wrote : (paths : List Path) (lists : List PackageList) → paths_of lists q ≡ paths_of G.lists q → paths_of (with_list own paths lists) q ≡ paths_of G.lists q
        wrote paths lists same = paths_with lists own q paths ∙ cond-false (bytes_eq q own) paths (paths_of lists q) (not_own q own ne) ∙ same

        by : (s : Stage) → paths_of (lists_at task s) q ≡ paths_of G.lists q
        by Unwritten = refl
        by Wrote = wrote p.union G.lists refl
        by Restored = wrote p.listed (lists_at task Wrote) (wrote p.union G.lists refl)

    -- the list of another package stays until the rows have run
    module _ (old : State) (begins : HasBegun p.members old.world begun.world) (h : IsTrue last.honest) where
      abbrev place : Place
      place = last_place (ground_of G places) p ended

      list_kept : (q : List ℕ) → q ≢ own → last.world (list_path q) ≡ old.world (list_path q)
      list_kept q ne =
          come_same (task_from (ground_of G places) p (state_on begun at.base)) (list_path q) (list_beside q own ne) plan.works_are.named place (stage_of (kinds_of p.found p.others) place) mid.works
          (works_on (ground_of G places) p place begun at.base mid.works at.works) (changes_of at.since) last.world (at.world h).came
          ∙ begun_beside (ground_of G places) p place old.world at.base (begun_at (ground_of G places) p place old.world begun mid last begins at h) (list_path q) refl (list_apart q own ne)

  -- a unit that has committed
  module _ (old new : State) (told now : List Called) (after : Recorded) (lists : List PackageList) (out : HasCarriedOut (ground_of G places) p Committed after lists old new told now) (h : IsTrue new.honest)
      (has : HasLists old.world names G.lists) (texts : AllByRecursion IsUtf8 p.new_list) where
    abbrev last : State
    last = out.last

    abbrev mid : Holding
    mid = out.mid

    abbrev taken : List Path
    taken = taken_places mid.works

    abbrev yields : List (List ℕ)
    yields = yields_of G.records ++ G.yields

    abbrev lost : List (List ℕ)
    lost = unit_losers (ground_of G places) p mid.works mid.lists

    abbrev losing : List Record
    losing = losing_records G.ways taken lost mid.database.records

    left : HasLeft (changes (ground_of G places) p mid.works mid.lists) (commit_records (ground_of G places) p mid.works mid.lists mid.database.records) G.ways mid.lists mid.database.records (length p.others) Committed last.world new.world
    left = out.leaves h

    -- the names

    one_of : (x q : List ℕ) → Contains (x ∷ []) q → q ≡ x
    one_of x q (zero, lt, same) = sym same
    one_of x q (suc k, lt, same) = absurd (omega (arith, lt))

    other_mid : (q : List ℕ) → q ≢ own → is_some (record_in mid.database.records q) ≡ is_some (record_in G.records q)
    other_mid q ne = mid_other out.ran.begun last mid Committed out.ran.rows_end q ne

    recorded_before : (q : List ℕ) → q ≢ own → Contains (record_names after.records) q → Contains names q
    recorded_before q ne is = elim (puts_named (losing ++ p.fresh ∷ []) mid.database.records q (subst (λ rs. Contains (record_names rs) q) out.records is)) [
      | inl noted_now ↦ elim (Contains-append_cases (record_names losing) (p.fresh.name ∷ []) q (subst (λ (l : List (List ℕ)). Contains l q) (map-append (λ (r : Record). r.name) losing (p.fresh ∷ [])) noted_now)) [
        | inl loses ↦ both_recorded mid.database.records G.records q (other_mid q ne) (losing_named G.ways taken lost mid.database.records q loses)
        | inr fresh ↦ absurd (ne (one_of p.fresh.name q fresh ∙ fresh_own))
      ]
      | inr there ↦ both_recorded mid.database.records G.records q (other_mid q ne) there
    ]

    recorded_then : (q : List ℕ) → q ≢ own → Contains names q → Contains (record_names after.records) q
    recorded_then q ne is = subst (λ rs. Contains (record_names rs) q) (sym out.records)
        (puts_keep (losing ++ p.fresh ∷ []) mid.database.records q (both_recorded G.records mid.database.records q (sym (other_mid q ne)) is))

    own_then : Contains (record_names after.records) own
    own_then = subst (λ rs. Contains (record_names rs) own) (sym out.records) (subst (Contains (record_names (put_records (losing ++ p.fresh ∷ []) mid.database.records))) fresh_own (puts_last losing p.fresh mid.database.records))

    -- the lists

    lost_other : (q : List ℕ) → Contains lost q → q ≢ own
    lost_other q loses = loser_other G.ways taken mid.lists own yields q loses

    lost_recorded : (q : List ℕ) → Contains lost q → Contains names q
    lost_recorded q loses =
        let one = loser_lists G.ways taken mid.lists own yields q loses in
        (has.sound q one.0 (subst (λ (l : List Path). Contains l one.0) (paths_mid out.ran.begun last mid Committed out.ran.rows_end q (lost_other q loses)) one.1)).0

    own_keeps : Contains lost own → ⊥
    own_keeps loses = lost_other own loses refl

    abbrev renewed : List PackageList
    renewed = with_list own p.new_list mid.lists

    paths_renewed : (q : List ℕ) → q ≢ own → paths_of renewed q ≡ paths_of G.lists q
    paths_renewed q ne = paths_with mid.lists own q p.new_list ∙ cond-false (bytes_eq q own) p.new_list (paths_of mid.lists q) (not_own q own ne) ∙ paths_mid out.ran.begun last mid Committed out.ran.rows_end q ne

    paths_spared_by : (q : List ℕ) → (Contains lost q → ⊥) → paths_of lists q ≡ paths_of renewed q
    paths_spared_by q spared = ap (λ l. paths_of l q) out.lists_are ∙ paths_spared G.ways taken lost renewed q spared

    end_own : IsListEnd old.world new.world names (record_names after.records) G.lists lists own
    end_own = IsListEnd.written p.new_list plan.lists_are.new_is.paths_are.room texts
        (left.removed.rest (list_path own) refl ∙ own_list (changes (ground_of G places) p mid.works mid.lists) G.ways mid.lists last.world _ left.followed plan.names_are.elsewhere left.has_followed own_keeps)
        (paths_spared_by own own_keeps ∙ paths_with mid.lists own own p.new_list ∙ cond-true (bytes_eq own own) p.new_list (paths_of mid.lists own) ((bytes_eq-Decides own own).1 refl))

    end_lost : (q : List ℕ) → Contains lost q → IsListEnd old.world new.world names (record_names after.records) G.lists lists q
    end_lost q loses =
        let ne = lost_other q loses in
        IsListEnd.written (left_paths G.ways taken q (paths_of G.lists q))
        (all_from IsListable (left_paths G.ways taken q (paths_of G.lists q)) (λ x there. listed_can old.world new.world names (record_names after.records) G.lists lists has q x (among_kept _ (paths_of G.lists q) x there)))
        (all_from IsUtf8 (left_paths G.ways taken q (paths_of G.lists q)) (λ x there. listed_texts old.world new.world names (record_names after.records) G.lists lists has q x (among_kept _ (paths_of G.lists q) x there)))
        (left.removed.rest (list_path q) refl ∙ loser_list (changes (ground_of G places) p mid.works mid.lists) G.ways mid.lists last.world _ left.followed plan.names_are.elsewhere left.has_followed q loses
        ∙ ap (λ (l : List Path). Some (list_file (left_paths G.ways taken q l))) (paths_renewed q ne))
        (ap (λ l. paths_of l q) out.lists_are ∙ paths_taken G.ways taken lost renewed q loses ∙ ap (left_paths G.ways taken q) (paths_renewed q ne))

    end_other : (q : List ℕ) → q ≢ own → (Contains lost q → ⊥) → Contains names q → IsListEnd old.world new.world names (record_names after.records) G.lists lists q
    end_other q ne spared is = IsListEnd.stays is
        (left.removed.rest (list_path q) refl
        ∙ other_list (changes (ground_of G places) p mid.works mid.lists) G.ways mid.lists last.world _ left.followed plan.names_are.elsewhere left.has_followed q plan.lists_are.spares ne spared
        ∙ list_kept out.ran.begun last mid Committed out.ran.rows_end old (out.ran.begins_so (out.since.honest h)) (out.since.honest h) q ne)
        (paths_spared_by q spared ∙ paths_renewed q ne)

    end_each : (q : List ℕ) → Contains (record_names after.records) q → IsListEnd old.world new.world names (record_names after.records) G.lists lists q
    end_each q is = elim (decide q own) [
      | inl same ↦ subst (IsListEnd old.world new.world names (record_names after.records) G.lists lists) (sym same) end_own
      | inr ne ↦ elim (among lost q) [
        | inl loses ↦ end_lost q loses
        | inr spared ↦ end_other q ne spared (recorded_before q ne is)
      ]
    ]

    end_none : (q : List ℕ) → (Contains (record_names after.records) q → ⊥) → paths_of lists q ≡ []
    end_none q isnt =
        let ne : q ≢ own = λ same. isnt (subst (Contains (record_names after.records)) (sym same) own_then) in
        let gone : Contains names q → ⊥ = λ is. isnt (recorded_then q ne is) in
        paths_spared_by q (λ loses. gone (lost_recorded q loses)) ∙ paths_renewed q ne ∙ unlisted old.world new.world names (record_names after.records) G.lists lists has q gone

    pub lists_committed : HasLists new.world (record_names after.records) lists
    lists_committed = has_lists_end old.world new.world names (record_names after.records) G.lists lists has end_each end_none

  -- a unit that was unwound

  some_end : (found : Option Record) (undo : OwnUndo) (reached : Bool) → is_some found ≡ true → is_some (own_end_by found p.incoming undo reached) ≡ true
  some_end found NoneFailed reached is = is
  some_end found OfPrerm true is = refl
  some_end found OfPrerm false is = refl
  some_end found OfPreinstOrPostrm reached is = refl

  dropped_some : (reached : Bool) (o : Option Record) (v w : World) → is_some o ≡ true → HasDropped reached o own v w → w ≡ v
  dropped_some true None v w e dropped = absurd (true≢false (sym e))
  dropped_some true (Some r) v w e same = same
  dropped_some false o v w e same = same

  module _ (old new : State) (told now : List Called) (fall : Fall) (failed : List Failed) (after : Recorded) (lists : List PackageList) (out : HasCarriedOut (ground_of G places) p (Unwound fall failed) after lists old new told now) (h : IsTrue new.honest)
      (has : HasLists old.world names G.lists) where
    abbrev back_mid : Holding
    back_mid = out.mid

    abbrev back : State
    back = out.last

    abbrev begun : State
    begun = out.ran.begun

    rows_end : At (task_from (ground_of G places) p begun) back_mid back (last_place (ground_of G places) p (Unwound fall failed))
    rows_end = out.ran.rows_end

    hb : IsTrue back.honest
    hb = out.since.honest h

    begins : BeginsAt (ground_of G places) p (last_place (ground_of G places) p (Unwound fall failed)) old.world rows_end.base
    begins = begun_at (ground_of G places) p (last_place (ground_of G places) p (Unwound fall failed)) old.world begun back_mid back (out.ran.begins_so hb) rows_end hb

    gone : HasLeft (changes (ground_of G places) p back_mid.works back_mid.lists) (commit_records (ground_of G places) p back_mid.works back_mid.lists back_mid.database.records) G.ways back_mid.lists back_mid.database.records (length p.others) (Unwound fall failed) back.world new.world
    gone = out.leaves h

    -- the names

    other_back : (q : List ℕ) → q ≢ own → is_some (record_in after.records q) ≡ is_some (record_in G.records q)
    other_back q ne = ap (λ rs. is_some (record_in rs q)) out.records ∙ mid_other begun back back_mid (Unwound fall failed) rows_end q ne

    own_stays : Contains names own → Contains (record_names back_mid.database.records) own
    own_stays is = is_recorded back_mid.database.records own
        (ap is_some (mid_record begun back back_mid (Unwound fall failed) rows_end own ∙ cond-true (bytes_eq own own) _ _ ((bytes_eq-Decides own own).1 refl))
        ∙ some_end p.found _ _ (ap is_some found_is ∙ has_record G.records own is))

    -- the package's own list, as the rows left it

    paths_with_own : (paths : List Path) (ls : List PackageList) → paths_of (with_list own paths ls) own ≡ paths
    paths_with_own paths ls = paths_with ls own own paths ∙ cond-true (bytes_eq own own) paths (paths_of ls own) ((bytes_eq-Decides own own).1 refl)

    listed_own : p.listed ≡ paths_of G.lists own
    listed_own = plan.lists_are.listed_is ∙ ap (paths_of G.lists) (sym plan.records_are.own)

    end_begun : Contains (record_names back_mid.database.records) own → (w : World) → w (list_path own) ≡ rows_end.base (list_path own) → (ls : List PackageList) → paths_of ls own ≡ paths_of G.lists own
        → IsListEnd old.world w names (record_names after.records) G.lists ls own
    end_begun recorded w same ls paths_are = by p.found refl (gone_recorded begun back back_mid (Unwound fall failed) rows_end recorded) begins.clears
      where
        by : (found : Option Record) → p.found ≡ found → (found ≡ None → is_gone found (length p.others) (Back 0 fall failed) ≡ true)
            → MayClear (is_gone found (length p.others) (Back 0 fall failed)) (is_gone found (length p.others) (Back 0 fall failed)) own begins.begun rows_end.base → IsListEnd old.world w names (record_names after.records) G.lists ls own
        by None is bare may = IsListEnd.bare (same ∙ (cleared_if _ _ own begins.begun rows_end.base (bare refl) may).list)
            (paths_are ∙ unlisted old.world w names (record_names after.records) G.lists ls has own (own_unrecorded is))
        by (Some r) is bare kept = IsListEnd.stays (own_recorded r is) (same ∙ ap (λ (x : World). x (list_path own)) kept ∙ begins.begins.lays (list_path own) refl) paths_are

    end_restored : (w : World) → w (list_path own) ≡ Some (list_file p.listed) → (ls : List PackageList) → paths_of ls own ≡ paths_of G.lists own → IsListEnd old.world w names (record_names after.records) G.lists ls own
    end_restored w is ls paths_are = IsListEnd.written p.listed plan.lists_are.listed_paths.room
        (all_from IsUtf8 p.listed (λ x there. listed_texts old.world w names (record_names after.records) G.lists ls has own x (subst (λ (l : List Path). Contains l x) listed_own there)))
        is (paths_are ∙ sym listed_own)

    -- what the rows left of it
    record IsOwnBack (w : World) (ls : List PackageList) : Type 0 where
      pub paths_are : paths_of ls own ≡ paths_of G.lists own
      pub ends : Contains (record_names back_mid.database.records) own → (v : World) → v (list_path own) ≡ w (list_path own) → IsListEnd old.world v names (record_names after.records) G.lists ls own

    own_restored : HasCome (task_from (ground_of G places) p (state_on begun rows_end.base)) Restored back_mid.works (changes_of rows_end.since) back.world → IsOwnBack back.world (lists_at (task_from (ground_of G places) p begun) Restored)
    own_restored came =
        let paths_are = paths_with_own p.listed (with_list own p.union G.lists) ∙ listed_own in
        record {
          paths_are = paths_are;
          ends = λ recorded v same. end_restored v
              (same ∙ came.since.rest (list_path own) refl ∙ changed_kept (is_kept places) came.late came.back came.since.avoids (list_path own) refl
              ∙ put_list (task_from (ground_of G places) p (state_on begun rows_end.base)) back_mid.works came.early came.back came.put)
              (with_list own p.listed (with_list own p.union G.lists)) paths_are;
        }

    own_back_at : (a b d : Bool) → b ≡ false → HasCome (task_from (ground_of G places) p (state_on begun rows_end.base)) (cond a (cond b Wrote Restored) (cond d Restored Unwritten)) back_mid.works (changes_of rows_end.since) back.world → IsOwnBack back.world (lists_at (task_from (ground_of G places) p begun) (cond a (cond b Wrote Restored) (cond d Restored Unwritten)))
    own_back_at false b false none came = record {
      paths_are = refl;
      ends = λ recorded v same. end_begun recorded v (same ∙ came.rest (list_path own) refl ∙ changed_kept (is_kept places) (changes_of rows_end.since) rows_end.base came.avoids (list_path own) refl) G.lists refl;
    }
    own_back_at false b true none came = own_restored came
    own_back_at true true d none came = absurd (true≢false none)
    own_back_at true false d none came = own_restored came

    own_back : IsOwnBack back.world lists
    own_back = subst (IsOwnBack back.world) (sym (out.lists_are ∙ rows_end.lists))
        (own_back_at (has_files (take fall.row (kinds_of p.found p.others))) (has_files (take 0 (kinds_of p.found p.others))) (is_declined fall.fault) refl (rows_end.world hb).came)

    -- each list

    back_own : Contains (record_names back_mid.database.records) own → IsListEnd old.world new.world names (record_names after.records) G.lists lists own
    back_own is = own_back.ends is new.world
        (gone.removed.rest (list_path own) refl ∙ ap (λ (x : World). x (list_path own)) (dropped_some (nat_le (length p.others) fall.row) (record_in back_mid.database.records own) back.world gone.followed (has_record back_mid.database.records own is) gone.has_followed))

    back_other : (q : List ℕ) → q ≢ own → Contains names q → IsListEnd old.world new.world names (record_names after.records) G.lists lists q
    back_other q ne is = IsListEnd.stays is
        (gone.removed.rest (list_path q) refl ∙ dropped_same (nat_le (length p.others) fall.row) (record_in back_mid.database.records own) own back.world gone.followed (list_path q) gone.has_followed (λ e. ne (same_list q own e))
        ∙ list_kept begun back back_mid (Unwound fall failed) rows_end old (out.ran.begins_so hb) hb q ne)
        (ap (λ l. paths_of l q) out.lists_are ∙ paths_mid begun back back_mid (Unwound fall failed) rows_end q ne)

    back_each : (q : List ℕ) → Contains (record_names after.records) q → IsListEnd old.world new.world names (record_names after.records) G.lists lists q
    back_each q is = elim (decide q own) [
      | inl same ↦ subst (IsListEnd old.world new.world names (record_names after.records) G.lists lists) (sym same)
          (back_own (subst (λ rs. Contains (record_names rs) own) out.records (subst (Contains (record_names after.records)) same is)))
      | inr ne ↦ back_other q ne (both_recorded after.records G.records q (other_back q ne) is)
    ]

    back_none : (q : List ℕ) → (Contains (record_names after.records) q → ⊥) → paths_of lists q ≡ []
    back_none q isnt = elim (decide q own) [
      | inl same ↦ ap (paths_of lists) same ∙ own_back.paths_are ∙ unlisted old.world new.world names (record_names after.records) G.lists lists has own (λ is. own_unnamed same is)
      | inr ne ↦ ap (λ l. paths_of l q) out.lists_are ∙ paths_mid begun back back_mid (Unwound fall failed) rows_end q ne
          ∙ unlisted old.world new.world names (record_names after.records) G.lists lists has q (λ is. isnt (both_recorded G.records after.records q (sym (other_back q ne)) is))
    ]
      where
        own_unnamed : q ≡ own → Contains names own → ⊥
        own_unnamed same is = isnt (subst (λ rs. Contains (record_names rs) q) (sym out.records) (subst (Contains (record_names back_mid.database.records)) (sym same) (own_stays is)))

    pub lists_unwound : HasLists new.world (record_names after.records) lists
    lists_unwound = has_lists_end old.world new.world names (record_names after.records) G.lists lists has back_each back_none

  -- however it ended
  pub lists_carried : (old new : State) (told now : List Called) (ended : Ended) (after : Recorded) (lists : List PackageList) → HasCarriedOut (ground_of G places) p ended after lists old new told now → IsTrue new.honest → HasLists old.world names G.lists
      → AllByRecursion IsUtf8 p.new_list → HasLists new.world (record_names after.records) lists
  lists_carried old new told now Committed after lists out h has texts = lists_committed old new told now after lists out h has texts
  lists_carried old new told now (Unwound fall failed) after lists out h has texts = lists_unwound old new told now fall failed after lists out h has

-- and so says its answer
pub listed_if_ok : {T E : Type 0} (result : Result T E) (G : Given) (stored : Present) (p : Planned) (places : List Path) (after : Recorded) (lists : List PackageList)
    → IsPlanned (job_of G stored) p → (ended : T → Ended) (old new : State) (told now : List Called) → Needs old (λ w. ∥ HasLists w (record_names G.records) G.lists ∥₁) → AllByRecursion IsUtf8 p.new_list
    → IfOk result (λ u. HasCarriedOut (ground_of G places) p (ended u) after lists old new told now)
    → IfOk result (λ u. Needs new (λ w. ∥ HasLists w (record_names after.records) lists ∥₁))
listed_if_ok (Ok u) G stored p places after lists plan ended old new told now listed texts out = λ h.
    let at_old = out.ran.until.honest (out.ran.between.honest (out.since.honest h)) in
    ∥∥₁_map (listed at_old) (λ has. lists_carried G stored p plan places old new told now (ended u) after lists out h has texts)
listed_if_ok (Err e) G stored p places after lists plan ended old new told now listed texts out = tt
