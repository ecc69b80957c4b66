-- What outside the administration differs behind the rows: while the package's last note isn't written it is marked, and its list
-- names what differs.
use Rattle.std.proofs.Common.{◌≡◌, ◌⊎◌, inl, inr, ℕ, zero, Bool, true, false, cond, List, [], ◌∷◌, ◌++◌, Option, Some, None, Contains, length, nat_le, map, take, refl, sym, ap, subst, ◌∙◌, arith}
use Rattle.std.specs.List.{AllByRecursion}
use Rattle.std.specs.Str.{bytes_eq}
use Rattle.std.proofs.lemmas.Bool.{cond-true, or_cases, true≢false}
use Rattle.std.proofs.lemmas.List.{take_all}
use Rattle.std.proofs.lemmas.List.Elements.{Contains-append_right}
use Rattle.std.proofs.lemmas.List.Folds.{list_any-append}
use Rattle.std.proofs.lemmas.Slice.Eq.{bytes_eq-Decides}
use Rattle.host_core.specs.Paths.{Path}
use Rattle.host_core.specs.World.{World, Change, changed, lowered}
use Rattle.host_core.specs.Events.{Event, changes_of}
use Rattle.host_core.specs.Host.{State}
use Rattle.host_core.proofs.Scripts.{no_change}
use Rattle.host_core.specs.Suffixes.{suffix_text}
use Rattle.host_core.specs.declared.suffix.Suffix.TheVariants.{New}
use Rattle.host_core.specs.declared.node.Node.{Node}
use Rattle.host_core.specs.declared.node.Node.TheVariants.{File, Dir, Link}
use Rattle.administration.specs.Places.{home_path, is_within, list_path}
use Rattle.undo_rows.specs.declared.fall.Fall.{Fall}
use Rattle.undo_rows.specs.declared.failed.Failed.{Failed}
use Rattle.undo_rows.specs.Place.{is_declined}
use Rattle.undo_rows.specs.Transcripts.{Ended, Committed, Unwound}
use Rattle.diversions.specs.Ways.{Ways, place}
use Rattle.file_lists.specs.Writing.{list_file}
use Rattle.file_lists.specs.declared.paths.PackageList.{PackageList}
use Rattle.file_removal.specs.Clearing.{cleared, is_among}
use Rattle.file_removal.specs.Removal.{Staying, none_stays, GoesBy, IsGoing}
use Rattle.file_removal.proofs.Lowered.{lowered_twice}
use Rattle.package_files.specs.declared.work.Work.{Work}
use Rattle.package_files.specs.Names.{IsNamed}
use Rattle.package_files.specs.Files.{Each, Misses}
use Rattle.list_changes.specs.Clearable.{clearable, is_clearable}
use Rattle.list_changes.specs.Leaving.{leaving_at, leaving_of}
use Rattle.status_db.specs.Held.{HasRecords}
use Rattle.status_records.specs.Records.{put_record, record_in}
use Rattle.status_records.specs.declared.record.Record.{Record}
use Rattle.status_records.proofs.Tables.{record_in-put_record}
use Rattle.unpack_commit.specs.Commit.{Changes, HasCommitted, MayCommit, renewed_lists}
use Rattle.unpack_commit.specs.Takeover.{losing_records, put_records, taken_places}
use Rattle.listed_files.specs.Closing.{HasReleased, HasRenewed, MayRelease, MayRenew}
use Rattle.unpack_plan.specs.Lists.{entry_paths}
use Rattle.unpack_plan.specs.Names.{backups, cut_names, gone_name, gone_names, known_conffiles, left_names, was_cut}
use Rattle.unpack_plan.specs.Planned.{IsPlanned, Planned}
use Rattle.unpack_plan.specs.Records.{IsFresh, entries_of}
use Rattle.unpack_rows.specs.Kinds.{first_kinds, has_prerm, is_upgrade, kinds_of, last_kinds, own_of, state_of}
use Rattle.unpack_rows.specs.Notes.{half_installed}
use Rattle.unpack_rows.specs.Stages.{Unwritten, Wrote, Restored, has_files, stage_of}
use Rattle.unpack_rows.specs.declared.kinds.RowKind.{RowKind}
use Rattle.unpack_rows.specs.declared.kinds.RowKind.TheVariants.{Other}
use Rattle.unpack_rows.specs.declared.rows.Present.{Present}
use Rattle.unpack_rows.proofs.Matching.{as_many}
use Rattle.unpack_rows.proofs.Staging.{marked}
use Rattle.unpack_plan.specs.Members.{scripts_in}
use Rattle.unpack_steps.specs.At.{AreWorksAt}
use Rattle.unpack_steps.specs.Task.{Task, lists_at, state_on}
use Rattle.unpack_steps.specs.Trail.{HasCome, HasFiles}
use Rattle.unpack_engine.specs.Units.{Given, Ground, IsAmidUnit, IsRunning, IsStage, MayLeave, MayLeaveBy, changes, commit_records, ground_of, job_of, last_place, package_name, table_after, task_from, unit_losers}
use Rattle.unpack_engine.proofs.Begun.{dropped_same, may_drop_same}
use Rattle.unpack_engine.proofs.Dropping.{laying_records}
use Rattle.unpack_engine.proofs.Losing.{loser_other}
use Rattle.unpack_laws.specs.InHand.{unit_found, unit_listed, unit_name, unit_yielding}
use Rattle.unpack_laws.specs.Marked.{IsAccounted, IsListedSo, IsMarkedAmid, IsRestored}
use Rattle.unpack_laws.specs.Whole.{IsWorkBack}
use Rattle.unpack_laws.proofs.Alone.{Based, based_amid, beginning_beside, calls_since}
use Rattle.unpack_laws.proofs.Marks.{HasShipped, IsNameOf, begun_out, begun_target, each_at, from_begun, marks_amid, named_in, names_or_misses, new_shipped, out_beside, out_spared, restored_beside, union_shipped, unit_work, union_list}
use Rattle.unpack_laws.proofs.NamesBack.{IsBesideBack, name_at, names_gone_back}
use Rattle.unpack_laws.proofs.NotedRecords.{IsGoodRecord, good_front, good_records, good_then, losing_good}
use Rattle.unpack_laws.proofs.OwnFiles.{back_then, rebased_back}
use Rattle.unpack_laws.proofs.OwnList.{committed_list, committing_list, noting_list}
use Rattle.unpack_laws.proofs.Passing.{no_backup, outside_list, outside_member, outside_records, outside_tmp}
use Rattle.unpack_laws.proofs.Scripted.{come_there}
use Rattle.unpack_laws.proofs.Targets.{targets_gone_back}

-- the file row is among the rows

in_last : (upgrade : Bool) → has_files (last_kinds upgrade) ≡ true
in_last true = refl
in_last false = refl

in_others : (others : List Record) (upgrade : Bool) → has_files (map (λ r. Other r) others ++ last_kinds upgrade) ≡ true
in_others [] upgrade = in_last upgrade
in_others (r ∷ rs) upgrade = in_others rs upgrade

in_first : (prerm : Bool) (others : List Record) (upgrade : Bool) → has_files (first_kinds prerm ++ (map (λ r. Other r) others ++ last_kinds upgrade)) ≡ true
in_first true others upgrade = in_others others upgrade
in_first false others upgrade = in_others others upgrade

wrote_all : (b : Bool) → b ≡ true → cond b Wrote Unwritten ≡ Wrote
wrote_all true e = refl
wrote_all false e = absurd (true≢false (sym e))

-- the last of the records that are put
put_last : (rs : List Record) (r : Record) (table : List Record) → record_in (put_records (rs ++ r ∷ []) table) r.name ≡ Some r
put_last [] r table = record_in-put_record r table r.name ∙ cond-true (bytes_eq r.name r.name) (Some r) (record_in table r.name) ((bytes_eq-Decides r.name r.name).1 refl)
put_last (x ∷ rs) r table = put_last rs r (put_record x table)

-- what goes by an old list is at the place of one of its paths
goes_place : (s : Staying) (ways : Ways) (lists : List PackageList) (name : List ℕ) (to_come conffiles listed : List Path) (w : World) (q : Path) → GoesBy s false w (leaving_of ways lists name to_come conffiles listed) q
    → (path : Path) × Contains listed path × (place ways name path ≡ q)
goes_place s ways lists name to_come conffiles [] w q goes = absurd goes
goes_place s ways lists name to_come conffiles (l ∷ ls) w q (inl later) =
    let more = goes_place s ways lists name to_come conffiles ls w q later in
    (more.0, Contains-append_right (l ∷ []) ls more.0 more.1, more.2)
goes_place s ways lists name to_come conffiles (l ∷ ls) w q (inr here) = (l, (zero, omega arith, refl), here.0)

-- where a unit left something that was cut is beside the place of one of its paths
module _ (ways : Ways) (lists : List PackageList) (name : List ℕ) (to_come conffiles : List Path) (q : Path) where
  gone_beside : (at : Path) (goes : Bool) → is_among (cond goes (clearable ((at ++ suffix_text New) ∷ [])) []) q ≡ true → at ++ suffix_text New ≡ q
  gone_beside at false is = absurd (true≢false (sym is))
  gone_beside at true is = by (is_clearable (at ++ suffix_text New)) is
    where
      by : (b : Bool) → is_among (cond b ((at ++ suffix_text New) ∷ []) []) q ≡ true → at ++ suffix_text New ≡ q
      by false none = absurd (true≢false (sym none))
      by true some = elim (or_cases (bytes_eq q (at ++ suffix_text New)) false some) [ inl e ↦ sym ((bytes_eq-Decides q (at ++ suffix_text New)).0 e) | inr none ↦ absurd (true≢false (sym none)) ]

  gone_place : (listed : List Path) → is_among (gone_names (leaving_of ways lists name to_come conffiles listed)) q ≡ true → (path : Path) × Contains listed path × (place ways name path ++ suffix_text New ≡ q)
  gone_place [] is = absurd (true≢false (sym is))
  gone_place (l ∷ ls) is =
      let x = leaving_at ways lists name to_come conffiles l in
      let xs = leaving_of ways lists name to_come conffiles ls in
      elim (or_cases (is_among (gone_name x) q) (is_among (gone_names xs) q) (sym (list_any-append (bytes_eq q) (gone_name x) (gone_names xs)) ∙ is)) [
        | inl here ↦ (l, (zero, omega arith, refl), gone_beside x.place x.goes here)
        | inr later ↦ let more = gone_place ls later in (more.0, Contains-append_right (l ∷ []) ls more.0 more.1, more.2)
      ]

  cut_place : (found : Option Record) (listed : List Path) → is_among (cut_names found (leaving_of ways lists name to_come conffiles listed)) q ≡ true
      → (was_cut found ≡ true) × (path : Path) × Contains listed path × (place ways name path ++ suffix_text New ≡ q)
  cut_place found listed is = by (was_cut found) refl is
    where
      by : (b : Bool) → was_cut found ≡ b → is_among (cond b (gone_names (leaving_of ways lists name to_come conffiles listed)) []) q ≡ true
          → (was_cut found ≡ true) × (path : Path) × Contains listed path × (place ways name path ++ suffix_text New ≡ q)
      by true cut some = let at = gone_place listed some in (cut, at.0, at.1, at.2)
      by false cut none = absurd (true≢false (sym none))

-- a name that was cleared has what it had, or nothing
cleared_is : (node : Option Node) → (cleared node ≡ node) ⊎ (cleared node ≡ None)
cleared_is None = inr refl
cleared_is (Some (File b m)) = inr refl
cleared_is (Some (Dir m)) = inl refl
cleared_is (Some (Link t)) = inr refl

module _ (g : Given) (stored : Present) (p : Planned) (plan : IsPlanned (job_of g stored) p) (places : List Path) where
  abbrev here : Ground
  here = ground_of g places

  abbrev own : List ℕ
  own = package_name here p

  abbrev list : Path
  list = list_path own

  abbrev kinds : List RowKind
  kinds = kinds_of p.found p.others

  as_many_rows : length p.rows ≡ length kinds
  as_many_rows =
      ap length plan.rows_are.rows_are
      ∙ as_many p.found p.incoming stored (scripts_in g.«package».scripts) g.others
      ∙ ap (λ (rs : List Record). length (kinds_of p.found rs)) (sym plan.rows_are.others_are)

  pub wrote_then : stage_of kinds (last_place here p Committed) ≡ Wrote
  wrote_then = wrote_all (has_files (take (length p.rows) kinds))
      (ap (λ n. has_files (take n kinds)) as_many_rows ∙ ap has_files (take_all (length kinds) kinds (omega arith)) ∙ in_first (has_prerm (state_of p.found)) p.others (is_upgrade (state_of p.found)))

  own_marked : record_in (table_after here p (last_place here p Committed)) own ≡ Some (half_installed (own_of p.found p.incoming))
  own_marked = marked p.found p.incoming p.others g.records (last_place here p Committed) wrote_then

  -- which old paths went, and which names were cleared

  abbrev waiting : List Path
  waiting = left_names g.ways (unit_name g) g.«package».conffiles (known_conffiles (unit_found g))

  went_at : (s : Staying) (w : World) (q : Path) → GoesBy s false w p.leaving q → (path : Path) × Contains (unit_listed g) path × (place g.ways (unit_name g) path ≡ q)
  went_at s w q goes =
      let at = goes_place s g.ways g.lists (unit_name g) p.new_list (entry_paths (entries_of p.found)) p.listed w q (subst (λ xs. GoesBy s false w xs q) plan.lists_are.leaving_is goes) in
      (at.0, subst (λ (l : List Path). Contains l at.0) plan.lists_are.listed_is at.1, at.2)

  -- beside the place of an old path, behind a unit that was cut
  abbrev IsCutName : Path → Type 0
  IsCutName q = (was_cut (unit_found g) ≡ true) × (path : Path) × Contains (unit_listed g) path × (place g.ways (unit_name g) path ++ suffix_text New ≡ q)

  cut_at : (q : Path) → is_among (cut_names p.found p.leaving) q ≡ true → IsCutName q
  cut_at q is =
      let at = cut_place g.ways g.lists (unit_name g) p.new_list (entry_paths (entries_of p.found)) q p.found p.listed (subst (λ xs. is_among (cut_names p.found xs) q ≡ true) plan.lists_are.leaving_is is) in
      (subst (λ f. was_cut f ≡ true) plan.records_are.found_is at.0, at.1, subst (λ (l : List Path). Contains l at.1) plan.lists_are.listed_is at.2, at.3)

  among_waiting : (q : Path) → Each (λ x. Misses x q) p.works → is_among p.names q ≡ true → (is_among waiting q ≡ true) ⊎ IsCutName q
  among_waiting q missed is =
      let left = left_names g.ways (unit_name g) g.«package».conffiles (known_conffiles p.found) in
      let names : is_among ((backups p.works ++ left) ++ cut_names p.found p.leaving) q ≡ true = ap (λ l. is_among l q) (sym plan.names_are.names_are) ∙ is in
      elim (or_cases (is_among (backups p.works ++ left) q) (is_among (cut_names p.found p.leaving) q) (sym (list_any-append (bytes_eq q) (backups p.works ++ left) (cut_names p.found p.leaving)) ∙ names)) [
        | inl first ↦ elim (or_cases (is_among (backups p.works) q) (is_among left q) (sym (list_any-append (bytes_eq q) (backups p.works) left) ∙ first)) [
          | inl backup ↦ absurd (true≢false (sym backup ∙ no_backup p.works q missed))
          | inr waits ↦ inl (ap (λ f. is_among (left_names g.ways (unit_name g) g.«package».conffiles (known_conffiles f)) q) (sym plan.records_are.found_is) ∙ waits)
        ]
        | inr cut ↦ inr (cut_at q cut)
      ]

  module _ (last : World) (q : Path) where
    -- a path as the rows left it, or going
    data IsLeftAt (now : World) : Type 0 where
      kept : now q ≡ last q → IsLeftAt now
      went : (path : Path) → Contains (unit_listed g) path → place g.ways (unit_name g) path ≡ q → IsGoing (last q) (now q) → IsLeftAt now
      waited : is_among waiting q ≡ true → IsGoing (last q) (now q) → IsLeftAt now
      cut : IsCutName q → IsGoing (last q) (now q) → IsLeftAt now

    going_then : (v w : World) → w q ≡ v q → IsGoing (last q) (v q) → IsGoing (last q) (w q)
    going_then v w same going = subst (IsGoing (last q)) (sym same) going

    going_lowered : (v w : World) → w q ≡ lowered (v q) → IsGoing (last q) (v q) → IsGoing (last q) (w q)
    going_lowered v w same (inl gone) = inl (same ∙ ap lowered gone)
    going_lowered v w same (inr low) = inr (same ∙ ap lowered low ∙ lowered_twice (last q))

    left_then : (v w : World) → w q ≡ v q → IsLeftAt v → IsLeftAt w
    left_then v w same (IsLeftAt.kept is) = IsLeftAt.kept (same ∙ is)
    left_then v w same (IsLeftAt.went path has at going) = IsLeftAt.went path has at (going_then v w same going)
    left_then v w same (IsLeftAt.waited is going) = IsLeftAt.waited is (going_then v w same going)
    left_then v w same (IsLeftAt.cut is going) = IsLeftAt.cut is (going_then v w same going)

    left_going : (s : Staying) (w : World) → GoesBy s false last p.leaving q → IsGoing (last q) (w q) → IsLeftAt w
    left_going s w goes going = let at = went_at s last q goes in IsLeftAt.went at.0 at.1 at.2 going

    module _ (out : is_within home_path q ≡ false) (missed : Each (λ x. Misses x q) p.works) where
      left_cleared : (v w : World) → is_among p.names q ≡ true → w q ≡ cleared (v q) → IsLeftAt v → IsLeftAt w
      left_cleared v w is same left = elim (cleared_is (v q)) [
        | inl keeps ↦ left_then v w (same ∙ keeps) left
        | inr none ↦ elim (among_waiting q missed is) [ inl waits ↦ IsLeftAt.waited waits (inl (same ∙ none)) | inr left_so ↦ IsLeftAt.cut left_so (inl (same ∙ none)) ]
      ]

      left_lowered : (v w : World) → is_among p.names q ≡ true → w q ≡ lowered (v q) → IsLeftAt v → IsLeftAt w
      left_lowered v w is same (IsLeftAt.kept stays) = elim (among_waiting q missed is) [
        | inl waits ↦ IsLeftAt.waited waits (inr (same ∙ ap lowered stays))
        | inr left_so ↦ IsLeftAt.cut left_so (inr (same ∙ ap lowered stays))
      ]
      left_lowered v w is same (IsLeftAt.went path has at going) = IsLeftAt.went path has at (going_lowered v w same going)
      left_lowered v w is same (IsLeftAt.waited waits going) = IsLeftAt.waited waits (going_lowered v w same going)
      left_lowered v w is same (IsLeftAt.cut left_so going) = IsLeftAt.cut left_so (going_lowered v w same going)

      left_by : (b : Bool) → is_among p.names q ≡ b → (v w : World) → w q ≡ cond b (cleared (v q)) (v q) → IsLeftAt v → IsLeftAt w
      left_by true is v w same left = left_cleared v w is same left
      left_by false is v w same left = left_then v w same left

      module _ (works : List Work) (lists : List PackageList) where
        abbrev c : Changes
        c = changes here p works lists

        renewing_left : (now : World) → MayRenew p.leaving list (list_file p.new_list) last now → IsLeftAt now
        renewing_left now (inl is) = elim (is.each q) [ inl same ↦ IsLeftAt.kept same | inr going ↦ left_going none_stays now going.0 going.1 ]
        renewing_left now (inr m) = elim (m.1.2.each q) [
          | inl gone ↦ left_going m.1.0 now gone.0 (inl (m.2.rest q (outside_list q out own).0 (outside_list q out own).1 ∙ gone.1))
          | inr stays ↦ IsLeftAt.kept (m.2.rest q (outside_list q out own).0 (outside_list q out own).1 ∙ stays.1)
        ]

        renewed_left : (renewed : World) → HasRenewed p.leaving list (list_file p.new_list) last renewed → IsLeftAt renewed
        renewed_left renewed has = elim (has.removed.2.each q) [
          | inl gone ↦ left_going has.removed.0 renewed gone.0 (inl (has.replaced.rest q (outside_list q out own).0 (outside_list q out own).1 ∙ gone.1))
          | inr stays ↦ IsLeftAt.kept (has.replaced.rest q (outside_list q out own).0 (outside_list q out own).1 ∙ stays.1)
        ]

        releasing_left : (v now : World) → IsLeftAt v → MayRelease g.ways c.places c.losers (renewed_lists c g.ways lists) c.names v now → IsLeftAt now
        releasing_left v now left (inl is) = left_then v now (is.rest q (λ n has. outside_list q out n)) left
        releasing_left v now left (inr m) =
            let mid = left_then v m.0 (m.1.rest q (λ n has. outside_list q out n)) left in
            elim (m.3.each q) [
              | inl same ↦ left_then m.0 now same mid
              | inr going ↦ elim going.1 [ inl low ↦ left_lowered m.0 now going.0 low mid | inr gone ↦ left_cleared m.0 now going.0 gone mid ]
            ]

        released_left : (renewed kept_then released : World) → HasRenewed p.leaving list (list_file p.new_list) last renewed → kept_then q ≡ renewed q → HasReleased g.ways c.places c.losers (renewed_lists c g.ways lists) c.names kept_then released → IsLeftAt released
        released_left renewed kept_then released first same third =
            let mid = left_then kept_then third.mid (third.taken.rest q (λ n has. outside_list q out n)) (left_then renewed kept_then same (renewed_left renewed first)) in
            left_by (is_among p.names q) refl third.mid released (third.cleared.each q) mid

        commit_left : (records before : List Record) (now : World) → MayCommit c g.ways lists records before last now → IsLeftAt now
        commit_left records before now (MayCommit.renewing may has opens) = renewing_left now may
        commit_left records before now (MayCommit.replacing renewed stale first is has opens) =
            left_then renewed now (is.rest q (λ m is_member. outside_member q out own m)) (renewed_left renewed first)
        commit_left records before now (MayCommit.releasing renewed kept_then stale first second whole may has opens) =
            releasing_left kept_then now (left_then renewed kept_then (second.rest q (λ m is_member. outside_member q out own m)) (renewed_left renewed first)) may
        commit_left records before now (MayCommit.noting renewed kept_then released stale first second whole third is) =
            left_then released now (is.rest q (outside_records q out)) (released_left renewed kept_then released first (second.rest q (λ m is_member. outside_member q out own m)) third)

        committed_left : (after : List Record) (now : World) → HasCommitted c g.ways lists after last now → IsLeftAt now
        committed_left after now has =
            left_then has.released now (has.noted.rest q (outside_records q out))
            (released_left has.renewed has.stored has.released has.renewal (has.replaced.rest q (λ m is_member. outside_member q out own m)) has.release)

  -- where all rows succeeded

  module _ (old : World) (begun : State) (begins : Based here p old begun.world) where
    abbrev task : Task
    task = task_from here p begun

    module _ (works : List Work) (change : Change) (last : World) (are : AreWorksAt task (last_place here p Committed) Wrote works) (has : HasFiles task works change last) (lists : List PackageList) where
      abbrev table : List Record
      table = table_after here p (last_place here p Committed)

      abbrev committed : List Record
      committed = commit_records here p works lists table

      last_scripted : (q : Path) → is_within home_path q ≡ false → Each (λ x. Misses x q) p.works → last q ≡ changed change old q
      last_scripted q out missed = from_begun g stored p plan places old begun begins change last q out
          (come_there task q (out_spared g stored p plan places q out missed) plan.works_are.named (last_place here p Committed) Wrote works are change last has)

      module _ (now : World) (left : (q : Path) → is_within home_path q ≡ false → Each (λ x. Misses x q) p.works → IsLeftAt last q now) where
        missed_at : (paths : List Path) (q : Path) → last q ≡ changed change old q → IsLeftAt last q now → IsAccounted g old now change paths q
        missed_at paths q was (IsLeftAt.kept is) = IsAccounted.scripted (is ∙ was)
        missed_at paths q was (IsLeftAt.went path listed at going) = IsAccounted.went path listed at (subst (λ n. IsGoing n (now q)) was going)
        missed_at paths q was (IsLeftAt.waited is going) = IsAccounted.cleared is (subst (λ n. IsGoing n (now q)) was going)
        missed_at paths q was (IsLeftAt.cut is going) = IsAccounted.cut is.0 is.1 is.2 is.3 (subst (λ n. IsGoing n (now q)) was going)

        accounted : (paths : List Path) → HasShipped g stored p plan places paths → (q : Path) → is_within home_path q ≡ false → IsAccounted g old now change paths q
        accounted paths shipped q out = elim (names_or_misses p.works q) [
          | inl at ↦ IsAccounted.named (named_in g stored p plan places paths shipped at.0 at.1 q at.2)
          | inr missed ↦ missed_at paths q (last_scripted q out missed) (left q out missed)
        ]

        listed_by : (paths : List Path) → HasShipped g stored p plan places paths → now list ≡ Some (list_file paths) → IsListedSo g old now change paths
        listed_by paths shipped is = record { list = ap (λ (n : List ℕ). now (list_path n)) (sym plan.records_are.own) ∙ is; accounted = accounted paths shipped }

        marked_by : (paths : List Path) → HasShipped g stored p plan places paths → now list ≡ Some (list_file paths) → (held : List Record) → HasRecords now held
            → record_in held own ≡ Some (half_installed (own_of p.found p.incoming)) → IsMarkedAmid g old now change
        marked_by paths shipped is held records marks = IsMarkedAmid.marked (record {
          table = held;
          records = records;
          incoming = p.incoming;
          is_incoming = plan.records_are.incoming_is;
          own = ap (record_in held) (sym plan.records_are.own) ∙ marks ∙ ap (λ f. Some (half_installed (own_of f p.incoming))) plan.records_are.found_is;
          paths = paths;
          listed = listed_by paths shipped is;
        })

        noted_by : now list ≡ Some (list_file p.new_list) → (held : List Record) → HasRecords now held → record_in held own ≡ Some p.fresh → IsMarkedAmid g old now change
        noted_by new held records is = IsMarkedAmid.noted (record {
          table = held;
          records = records;
          fresh = p.fresh;
          is_fresh = subst (λ f. IsFresh (unit_yielding g) g.«package» f p.fresh) plan.records_are.found_is plan.records_are.fresh_is;
          own = ap (record_in held) (sym plan.records_are.own) ∙ is;
          paths = p.new_list;
          are = plan.lists_are.new_is;
          listed = listed_by p.new_list (new_shipped g stored p plan places) new;
        })

        by_list : (now list ≡ last list) ⊎ (now list ≡ Some (list_file p.new_list)) → (held : List Record) → HasRecords now held
            → record_in held own ≡ Some (half_installed (own_of p.found p.incoming)) → IsMarkedAmid g old now change
        by_list (inl same) held records marks = marked_by p.union (union_shipped g stored p plan places) (same ∙ union_list g stored p plan places old begun begins works are.same change last has) held records marks
        by_list (inr new) held records marks = marked_by p.new_list (new_shipped g stored p plan places) new held records marks

      no_own_loser : Contains (unit_losers here p works lists) own → ⊥
      no_own_loser loses = loser_other g.ways (taken_places works) lists own here.yields own loses refl

      -- while the records are noted, its own is the last
      abbrev OwnNoted : Option Record → Type 0
      OwnNoted o = (o ≡ Some (half_installed (own_of p.found p.incoming))) ⊎ (o ≡ Some p.fresh)

      own_noted : (front back : List Record) → committed ≡ front ++ back → OwnNoted (record_in (put_records front table) own)
      own_noted front back is =
          good_records OwnNoted own front table
          (good_front OwnNoted own front back (subst (AllByRecursion (IsGoodRecord OwnNoted own)) is
          (good_then OwnNoted own (losing_records g.ways (taken_places works) (unit_losers here p works lists) table) p.fresh
          (losing_good OwnNoted own g.ways (taken_places works) (unit_losers here p works lists) no_own_loser table) (λ same. inr refl))))
          (inl own_marked)

      commit_marks : (now : World) → MayCommit (changes here p works lists) g.ways lists committed table last now → IsMarkedAmid g old now change
      commit_marks now may = at may
        where
          left : (q : Path) → is_within home_path q ≡ false → Each (λ x. Misses x q) p.works → IsLeftAt last q now
          left q out missed = commit_left last q out missed works lists committed table now may

          lists_then : (now list ≡ last list) ⊎ (now list ≡ Some (list_file p.new_list))
          lists_then = committing_list g stored p plan places works lists committed table last now may

          at : MayCommit (changes here p works lists) g.ways lists committed table last now → IsMarkedAmid g old now change
          at (MayCommit.renewing renewing records opens) = by_list now left lists_then table records own_marked
          at (MayCommit.replacing renewed stale first is records opens) = by_list now left lists_then table records own_marked
          at (MayCommit.releasing renewed kept_then stale first second whole releasing records opens) = by_list now left lists_then table records own_marked
          at (MayCommit.noting renewed kept_then released stale first second whole third is) = elim (own_noted is.front is.back is.are) [
            | inl half ↦ by_list now left lists_then (put_records is.front table) is.has half
            | inr done ↦ noted_by now left (noting_list g stored p plan places works lists committed table last renewed kept_then released now stale first second third is) (put_records is.front table) is.has done
          ]

      fresh_noted : record_in (put_records committed table) own ≡ Some p.fresh
      fresh_noted = subst (λ (n : List ℕ). record_in (put_records committed table) n ≡ Some p.fresh) (plan.records_are.fresh_is.is.name_is ∙ sym plan.records_are.own)
          (put_last (losing_records g.ways (taken_places works) (unit_losers here p works lists) table) p.fresh table)

      committed_marks : (now : World) → MayLeave (changes here p works lists) committed g.ways lists table (length p.others) Committed last now → IsMarkedAmid g old now change
      committed_marks now (MayLeaveBy.following may) = commit_marks now may
      committed_marks now (MayLeaveBy.clearing_away followed has_followed opens laying) =
          noted_by now
          (λ q out missed. left_then last q followed now (laying.rest q (outside_tmp q out)) (committed_left last q out missed works lists (put_records committed table) followed has_followed))
          (laying.rest list refl ∙ committed_list g stored p plan places works lists (put_records committed table) last followed has_followed)
          (put_records committed table) (laying_records followed now laying.rest (put_records committed table) has_followed.noted.has) fresh_noted

    -- where they were undone, nothing outside the administration changes any more
    module _ (fall : Fall) (failed : List Failed) (works : List Work) (records table : List Record) (change : Change) (lists : List PackageList) where
      abbrev ended : Ended
      ended = Unwound fall failed

      unwound_same : (last now : World) → MayLeave (changes here p works lists) records g.ways lists table (length p.others) ended last now → (q : Path) → is_within home_path q ≡ false → now q ≡ last q
      unwound_same last now (MayLeaveBy.following may) q out = may_drop_same (nat_le (length p.others) fall.row) (record_in table own) own last now q may (outside_list q out own).0
      unwound_same last now (MayLeaveBy.clearing_away followed has opens laying) q out = laying.rest q (outside_tmp q out) ∙ dropped_same (nat_le (length p.others) fall.row) (record_in table own) own last followed q has (outside_list q out own).0

      restored_marks : AreWorksAt task (last_place here p ended) Restored works → (last now : World) → HasCome task Restored works change last
          → MayLeave (changes here p works lists) records g.ways lists table (length p.others) ended last now → IsMarkedAmid g old now change
      restored_marks are last now come may = IsMarkedAmid.restored restored
        where
          name_back : (q : Path) → is_within home_path q ≡ false → (x : Work) → Contains p.works x → IsNameOf x q → IsRestored g old now change q
          name_back q out x there (inl at) =
              let out_there = subst (λ r. is_within home_path r ≡ false) at out in
              IsRestored.target x (unit_work g stored p plan places x there) at
              (back_then x.target x.node old last now change (unwound_same last now may x.target out_there)
              (rebased_back x.target x.node old begun.world last change (begun_out g stored p plan places old begun begins x.target out_there)
              (each_at (IsWorkBack begun.world last change) p.works x (targets_gone_back task plan.works_are.named works are.same change last come) there)))
          name_back q out x there (inr beside) = restored_beside g stored p plan places old begun begins change now x there q out beside
              (name_at g x q old begun.world last now change (begun_target g stored p plan places old begun begins x (each_at IsNamed p.works x plan.works_are.named there)) (unwound_same last now may q out)
              (each_at (IsBesideBack g begun.world last change) p.works x (names_gone_back g task plan.works_are.named works are.same change last come) there) beside)

          restored : (q : Path) → is_within home_path q ≡ false → IsRestored g old now change q
          restored q out = elim (names_or_misses p.works q) [
            | inl at ↦ name_back q out at.0 at.1 at.2
            | inr missed ↦ IsRestored.scripted (unwound_same last now may q out ∙ from_begun g stored p plan places old begun begins change last q out
                (come_there task q (out_spared g stored p plan places q out missed) plan.works_are.named (last_place here p ended) Restored works are change last come))
          ]

      unwound_marks : (b d : Bool) → AreWorksAt task (last_place here p ended) (cond b Restored (cond d Restored Unwritten)) works → (last now : World) → HasCome task (cond b Restored (cond d Restored Unwritten)) works change last
          → MayLeave (changes here p works lists) records g.ways lists table (length p.others) ended last now → IsMarkedAmid g old now change
      unwound_marks false false are last now come may = IsMarkedAmid.untouched (λ q out.
          from_begun g stored p plan places old begun begins change now q out (unwound_same last now may q out ∙ come.rest q (outside_records q out)))
      unwound_marks false true are last now come may = restored_marks are last now come may
      unwound_marks true d are last now come may = restored_marks are last now come may

    -- however they ended
    leaving_marks : (ended : Ended) (works : List Work) (change : Change) (last now : World) → AreWorksAt task (last_place here p ended) (stage_of kinds (last_place here p ended)) works
        → HasCome task (stage_of kinds (last_place here p ended)) works change last
        → MayLeave (changes here p works (lists_at task (stage_of kinds (last_place here p ended)))) (commit_records here p works (lists_at task (stage_of kinds (last_place here p ended))) (table_after here p (last_place here p ended))) g.ways (lists_at task (stage_of kinds (last_place here p ended))) (table_after here p (last_place here p ended)) (length p.others) ended last now
        → IsMarkedAmid g old now change
    leaving_marks Committed works change last now are come may =
        committed_marks works change last (subst (λ s. AreWorksAt task (last_place here p Committed) s works) wrote_then are) (subst (λ s. HasCome task s works change last) wrote_then come)
        (lists_at task (stage_of kinds (last_place here p Committed))) now may
    leaving_marks (Unwound fall failed) works change last now are come may =
        let place = last_place here p (Unwound fall failed) in
        let had = lists_at task (stage_of kinds place) in
        unwound_marks fall failed works (commit_records here p works had (table_after here p place)) (table_after here p place) change had (has_files (take fall.row kinds)) (is_declined fall.fault) are last now come may

  -- at each moment

  pub stage_marks : (old : World) (so_far : List Event) (now : World) → IsStage here p old so_far now → IsMarkedAmid g old now (changes_of so_far)
  stage_marks old so_far now (IsStage.running (IsRunning.beginning none may)) = IsMarkedAmid.untouched (λ q out.
      beginning_beside here p q (out_beside g stored p plan places q out) (outside_tmp q out) old now may ∙ ap (λ c. changed c old q) (sym (no_change so_far none)))
  stage_marks old so_far now (IsStage.running (IsRunning.running begun before more is none begins stops)) =
      subst (IsMarkedAmid g old now) (calls_since begun.events so_far before more stops.since is none stops.events) (marks_amid g stored p plan places old (state_on begun stops.base) (based_amid here p old begun _ now begins stops) _ (changes_of stops.since) now stops.records stops.files)
  stage_marks old so_far now (IsStage.leaving ended works begun last begins are come may) = leaving_marks old begun (last_place here p ended, begins) ended works (changes_of so_far) last now are come may

pub marks_unit : (g : Given) (places : List Path) (old now : World) (so_far : List Event) → IsAmidUnit g places old so_far now → IsMarkedAmid g old now (changes_of so_far)
marks_unit g places old now so_far (inl looks) = IsMarkedAmid.untouched (λ q out. ap (λ (w : World). w q) looks.0 ∙ ap (λ c. changed c old q) (sym (no_change so_far looks.1)))
marks_unit g places old now so_far (inr amid) = stage_marks g amid.plan_for.stored amid.plan amid.plan_for.planned places old so_far now amid.under_way.stage
