-- What stands behind an unpack that was carried out whole.
use Rattle.std.proofs.Common.{◌≡◌, ◌≢◌, ◌||◌, inl, inr, not, ℕ, zero, suc, Bool, true, false, cond, List, [], ◌∷◌, None, IsTrue, Contains, length, refl, sym, ap, subst, ◌∙◌, arith, ◌++◌}
use Rattle.std.specs.List.{list_any}
use Rattle.std.specs.Str.{bytes_eq}
use Rattle.std.proofs.lemmas.Bool.{false_from_ne_true, true≢false}
use Rattle.std.proofs.lemmas.List.Elements.{Contains-append_right}
use Rattle.std.proofs.lemmas.List.Folds.{list_any-append}
use Rattle.std.proofs.lemmas.List.Sorted.{IsPermutation-sym}
use Rattle.std.proofs.lemmas.Slice.Eq.{bytes_eq-Decides}
use Rattle.host_core.specs.Paths.{Path, is_below_administration}
use Rattle.host_core.specs.World.{World, Change, IsLoose}
use Rattle.host_core.specs.Host.{State}
use Rattle.host_core.specs.Events.{changes_of}
use Rattle.host_core.proofs.Nodes.{none_stands}
use Rattle.administration.specs.Places.{home_path, is_within, list_path, temporary, tmp_path}
use Rattle.control_members.specs.Stored.{stored_member_path}
use Rattle.diversions.specs.Ways.{is_led_to, place}
use Rattle.undo_rows.specs.Transcripts.{Committed}
use Rattle.file_lists.specs.Owners.{has_other_owner}
use Rattle.file_lists.specs.declared.paths.PackageList.{PackageList}
use Rattle.file_removal.specs.Clearing.{cleared, is_among}
use Rattle.file_removal.specs.declared.leaving.Leaving.{Leaving}
use Rattle.file_removal.proofs.Leavings.{loose_gone}
use Rattle.file_check.specs.Rearranged.{IsRearranged}
use Rattle.package_files.specs.declared.work.Work.{Work}
use Rattle.package_files.specs.Files.{Each, HasWritten, Misses, cleared as cleared_name}
use Rattle.package_files.specs.Names.{IsNamed}
use Rattle.package_files.proofs.WorkLists.{each_map, each_of}
use Rattle.list_changes.specs.Leaving.{is_place_of, leaving_at, leaving_of, stays}
use Rattle.status_db.specs.Held.{is_record_place}
use Rattle.status_db.specs.Recorded.{Recorded}
use Rattle.status_records.specs.declared.record.Record.{Record}
use Rattle.undo_rows.specs.declared.rows.Called.{Called}
use Rattle.unpack_commit.specs.Commit.{HasCommitted}
use Rattle.unpack_commit.specs.Takeover.{put_records}
use Rattle.listed_files.proofs.Apart.{list_below, spare_below}
use Rattle.listed_files.proofs.Closings.{below_within}
use Rattle.unpack_plan.specs.Lists.{entry_paths, old_leaving}
use Rattle.unpack_plan.specs.Names.{backups, cut_names, known_conffiles, left_names}
use Rattle.unpack_plan.specs.Planned.{IsPlanned, Planned}
use Rattle.unpack_plan.specs.Records.{IsFresh, entries_of}
use Rattle.unpack_rows.specs.declared.rows.Present.{Present}
use Rattle.unpack_steps.specs.Task.{Task, state_on}
use Rattle.unpack_engine.proofs.Cleared.{works_on}
use Rattle.unpack_steps.specs.At.{AreWorksAt, IsThere}
use Rattle.unpack_steps.specs.Trail.{AreOrdered, HasCome, HasFiles}
use Rattle.unpack_steps.proofs.FileWorlds.{still_written}
use Rattle.unpack_steps.proofs.Rearranged.{each_rearranged}
use Rattle.unpack_steps.proofs.Standing.{record_below}
use Rattle.unpack_engine.specs.Units.{Given, Ground, HasCarriedOut, HasLeft, HasUnpacked, changes, commit_records, ground_of, job_of, last_place, package_name, task_from}
use Rattle.unpack_engine.proofs.Apart.{tmp_beside}
use Rattle.unpack_laws.specs.Done.{IsClear, IsClearBeside, LeavesNoOldFile}
use Rattle.unpack_laws.specs.InHand.{unit_found, unit_listed, unit_name, unit_works, unit_yielding}
use Rattle.unpack_laws.proofs.Clear.{clear_at, clear_none, cleared_clear, name_clear}
use Rattle.unpack_laws.proofs.Marks.{each_at}
use Rattle.unpack_laws.proofs.MarksLeaving.{wrote_then}
use Rattle.unpack_laws.proofs.Passing.{works_are}
use Rattle.unpack_laws.proofs.Targets.{name_apart}

-- what isn't below the administration's directory

elsewhere_is : (q p : Path) → is_below_administration q ≡ false → is_below_administration p ≡ true → q ≢ p
elsewhere_is q p out below e = true≢false (sym below ∙ ap is_below_administration (sym e) ∙ out)

module _ (g : Given) (stored : Present) (p : Planned) (plan : IsPlanned (job_of g stored) p) (places : List Path) where
  abbrev here : Ground
  here = ground_of g places

  abbrev own : List ℕ
  own = package_name here p

  -- through a commit
  module _ (works : List Work) (lists : List PackageList) (after : List Record) (last followed : World) (has : HasCommitted (changes here p works lists) g.ways lists after last followed) (q : Path) (out : is_below_administration q ≡ false) where
    unnoted : is_record_place q ≡ false
    unnoted = false_from_ne_true (is_record_place q) (λ is. true≢false (sym (record_below q is) ∙ out))

    before_names : has.release.mid q ≡ has.renewal.mid q
    before_names =
        has.release.taken.rest q (λ n there. (elsewhere_is q (list_path n) out (list_below n), elsewhere_is q (temporary (list_path n)) out (spare_below n)))
        ∙ has.replaced.rest q (λ member is. (elsewhere_is q (stored_member_path own member) out refl, elsewhere_is q (temporary (stored_member_path own member)) out refl))
        ∙ has.renewal.replaced.rest q (elsewhere_is q (list_path own) out (list_below own)) (elsewhere_is q (temporary (list_path own)) out (spare_below own))

    names_clear : IsClear (has.release.mid q) → IsClear (has.released q)
    names_clear clear = by (is_among p.names q) refl
      where
        by : (b : Bool) → is_among p.names q ≡ b → IsClear (has.released q)
        by true is = clear_at (has.released q) (cleared (has.release.mid q)) (has.release.cleared.each q ∙ ap (λ b. cond b (cleared (has.release.mid q)) (has.release.mid q)) is) (cleared_clear (has.release.mid q))
        by false is = clear_at (has.released q) (has.release.mid q) (has.release.cleared.each q ∙ ap (λ b. cond b (cleared (has.release.mid q)) (has.release.mid q)) is) clear

    -- what is clear once the old paths went stays so
    behind_paths : IsClear (has.renewal.mid q) → IsClear (followed q)
    behind_paths clear =
        clear_at (followed q) (has.released q) (has.noted.rest q unnoted) (names_clear (clear_at (has.release.mid q) (has.renewal.mid q) before_names clear))

    -- what was clear before stays so
    still_clear : IsClear (last q) → IsClear (followed q)
    still_clear clear = behind_paths (elim (has.renewal.removed.2.each q) [
      | inl gone ↦ clear_none (has.renewal.mid q) gone.1
      | inr kept ↦ clear_at (has.renewal.mid q) (last q) kept.1 clear
    ])

    -- a name that is cleared is clear then
    named_clear : is_among p.names q ≡ true → IsClear (followed q)
    named_clear is =
        clear_at (followed q) (has.released q) (has.noted.rest q unnoted)
        (clear_at (has.released q) (cleared (has.release.mid q)) (has.release.cleared.each q ∙ ap (λ b. cond b (cleared (has.release.mid q)) (has.release.mid q)) is) (cleared_clear (has.release.mid q)))

    -- an old path that goes isn't a file any more
    gone_clear : (x : Leaving) → Contains p.leaving x → IsTrue x.goes → x.place ≡ q → IsClear (followed q)
    gone_clear x listed goes at = behind_paths (λ loose. elim (has.renewal.removed.2.each q) [
      | inl gone ↦ none_stands (has.renewal.mid q) gone.1 loose.0
      | inr kept ↦
          let none : has.renewal.mid q ≡ None = ap has.renewal.mid (sym at) ∙ loose_gone has.renewal.removed.0 last p.leaving has.renewal.mid x has.renewal.removed.2 listed goes (subst IsLoose (kept.1 ∙ ap last (sym at)) loose) in
          none_stands (has.renewal.mid q) none loose.0
    ])

  -- names beside the places of works

  first_or : (a b : Bool) → a ≡ true → a || b ≡ true
  first_or true b e = refl
  first_or false b e = absurd (true≢false (sym e))

  later_or : (a b : Bool) → b ≡ true → a || b ≡ true
  later_or true b e = refl
  later_or false b e = e

  backup_among : (xs : List Work) (x : Work) → Contains xs x → is_among (backups xs) x.backup ≡ true
  backup_among [] x there = absurd (omega (arith, there.1))
  backup_among (y ∷ xs) x (zero, lt, is) = first_or (bytes_eq x.backup y.backup) (is_among (backups xs) x.backup) ((bytes_eq-Decides x.backup y.backup).1 (ap (λ (z : Work). z.backup) (sym is)))
  backup_among (y ∷ xs) x (suc k, lt, is) = later_or (bytes_eq x.backup y.backup) (is_among (backups xs) x.backup) (backup_among xs x (k, omega (arith, lt), is))

  backup_named : (x : Work) → Contains p.works x → is_among p.names x.backup ≡ true
  backup_named x there =
      let left = left_names g.ways (unit_name g) g.«package».conffiles (known_conffiles p.found) in
      ap (λ l. is_among l x.backup) plan.names_are.names_are
      ∙ list_any-append (bytes_eq x.backup) (backups p.works ++ left) (cut_names p.found p.leaving)
      ∙ first_or (is_among (backups p.works ++ left) x.backup) (is_among (cut_names p.found p.leaving) x.backup)
      (list_any-append (bytes_eq x.backup) (backups p.works) left
      ∙ first_or (is_among (backups p.works) x.backup) (is_among left x.backup) (backup_among p.works x there))

  name_out : (x : Work) → IsNamed x → (q : Path) → (Misses x q → ⊥) → is_below_administration q ≡ false
  name_out x named q hits = false_from_ne_true (is_below_administration q) (λ below. name_apart x named q hits q below refl)

  -- the files as the rows left them
  fresh_clear : (task : Task) (works : List Work) (change : Change) (last : World) → HasFiles task works change last → IsRearranged task.works works → Each IsNamed works → Each (λ x. IsClear (last x.fresh)) works
  fresh_clear task works change last has moved named =
      each_of (HasWritten has.listed.mid last) (λ x. IsClear (last x.fresh)) (λ x written. clear_at (last x.fresh) (cleared_name (has.listed.mid x.fresh)) written.fresh (name_clear (has.listed.mid x.fresh)))
      works (still_written task works change last has moved named).has

  all_each : (P : Work → Type 0) (xs : List Work) → ((x : Work) → Contains xs x → P x) → Each P xs
  all_each P [] all = tt
  all_each P (x ∷ xs) all = (all x (zero, omega arith, refl), all_each P xs (λ y there. all y (Contains-append_right (x ∷ []) xs y there)))

  module _ (begun : State) (works : List Work) (change : Change) (lists : List PackageList) (after : List Record) (last followed : World) (ordered : AreOrdered (task_from here p begun) works) (files : HasFiles (task_from here p begun) works change last)
      (has : HasCommitted (changes here p works lists) g.ways lists after last followed) where
    fresh_last : Each (λ x. IsClear (last x.fresh)) p.works
    fresh_last = each_rearranged (λ x. IsClear (last x.fresh)) (λ x is. is) (λ x is. is) works p.works (IsPermutation-sym _ _ ordered.same) (fresh_clear (task_from here p begun) works change last files ordered.same ordered.named)

    beside_then : (x : Work) → Contains p.works x → IsClearBeside followed x
    beside_then x there =
        let named = each_at IsNamed p.works x plan.works_are.named there in
        record {
          backup = named_clear works lists after last followed has x.backup (name_out x named x.backup (λ m. m.backup refl)) (backup_named x there);
          fresh = still_clear works lists after last followed has x.fresh (name_out x named x.fresh (λ m. m.fresh refl)) (each_at (λ y. IsClear (last y.fresh)) p.works x fresh_last there);
        }

    pub all_beside : Each (IsClearBeside followed) p.works
    all_beside = all_each (IsClearBeside followed) p.works beside_then

  -- old paths

  leaving_there : (paths conffiles listed : List Path) (path : Path) → Contains listed path
      → Contains (leaving_of g.ways g.lists (unit_name g) paths conffiles listed) (leaving_at g.ways g.lists (unit_name g) paths conffiles path)
  leaving_there paths conffiles [] path there = absurd (omega (arith, there.1))
  leaving_there paths conffiles (l ∷ ls) path (zero, lt, is) = (zero, omega arith, ap (leaving_at g.ways g.lists (unit_name g) paths conffiles) is)
  leaving_there paths conffiles (l ∷ ls) path (suc k, lt, is) =
      Contains-append_right (leaving_at g.ways g.lists (unit_name g) paths conffiles l ∷ []) (leaving_of g.ways g.lists (unit_name g) paths conffiles ls) (leaving_at g.ways g.lists (unit_name g) paths conffiles path)
      (leaving_there paths conffiles ls path (k, omega (arith, lt), is))

  third_fails : (a b c d : Bool) → a || (b || (c || d)) ≡ false → b ≡ false
  third_fails true b c d e = absurd (true≢false e)
  third_fails false true c d e = absurd (true≢false e)
  third_fails false false c d e = refl

  not_either : (a b : Bool) → a ≡ false → b ≡ false → not (a || b) ≡ true
  not_either true b first second = absurd (true≢false first)
  not_either false true first second = absurd (true≢false second)
  not_either false false first second = refl

  pub no_old_file : (works : List Work) (lists : List PackageList) (after : List Record) (last followed : World) → HasCommitted (changes here p works lists) g.ways lists after last followed → LeavesNoOldFile g followed
  no_old_file works lists after last followed has = record {
    fresh = p.fresh;
    is_fresh = subst (λ f. IsFresh (unit_yielding g) g.«package» f p.fresh) plan.records_are.found_is plan.records_are.fresh_is;
    paths = p.new_list;
    are = plan.lists_are.new_is;
    none = λ path there plain goes.
        let at = place g.ways (unit_name g) path in
        let conffiles = entry_paths (entries_of (unit_found g)) in
        let inside : is_within home_path at ≡ false =
        third_fails (is_led_to g.ways at) (is_within home_path at) (is_place_of g.ways (unit_name g) p.new_list at) (has_other_owner g.ways g.lists (unit_name g) at) goes in
        gone_clear works lists after last followed has at (false_from_ne_true (is_below_administration at) (λ below. true≢false (sym (below_within at below) ∙ inside)))
        (leaving_at g.ways g.lists (unit_name g) p.new_list conffiles path)
        (subst (λ (l : List Leaving). Contains l (leaving_at g.ways g.lists (unit_name g) p.new_list conffiles path))
        (sym (plan.lists_are.leaving_is
        ∙ ap (λ f. old_leaving g.ways g.lists (unit_name g) f p.new_list p.listed) plan.records_are.found_is
        ∙ ap (λ (l : List Path). old_leaving g.ways g.lists (unit_name g) (unit_found g) p.new_list l) plan.lists_are.listed_is))
        (leaving_there p.new_list conffiles (unit_listed g) path there))
        (not_either (list_any (bytes_eq path) conffiles) (stays g.ways g.lists (unit_name g) p.new_list at) plain goes)
        refl;
  }

  -- the whole unit

  module _ (after : Recorded) (lists : List PackageList) (old new : State) (told now : List Called) (out : HasCarriedOut here p Committed after lists old new told now) (honest : IsTrue new.honest) where
    abbrev left : HasLeft (changes here p out.mid.works out.mid.lists) (commit_records here p out.mid.works out.mid.lists out.mid.database.records) g.ways out.mid.lists out.mid.database.records (length p.others) Committed out.last.world new.world
    left = out.leaves honest

    tmp_out : (q : Path) → is_below_administration q ≡ false → is_within tmp_path q ≡ false
    tmp_out q elsewhere = false_from_ne_true (is_within tmp_path q) (λ within. true≢false (sym (tmp_beside [] q within).below ∙ elsewhere))

    same_there : (q : Path) → is_below_administration q ≡ false → new.world q ≡ left.followed q
    same_there q elsewhere = left.removed.rest q (tmp_out q elsewhere)

    there : IsThere (task_from here p (state_on out.ran.begun out.ran.rows_end.base)) out.mid (last_place here p Committed) (changes_of out.ran.rows_end.since) out.last.world
    there = out.ran.rows_end.world (out.since.honest honest)

    ordered_then : AreOrdered (task_from here p (state_on out.ran.begun out.ran.rows_end.base)) out.mid.works
    ordered_then = subst (λ s. AreWorksAt (task_from here p (state_on out.ran.begun out.ran.rows_end.base)) (last_place here p Committed) s out.mid.works) (wrote_then g stored p plan places)
        (works_on here p (last_place here p Committed) out.ran.begun out.ran.rows_end.base out.mid.works out.ran.rows_end.works)

    files_then : HasFiles (task_from here p (state_on out.ran.begun out.ran.rows_end.base)) out.mid.works (changes_of out.ran.rows_end.since) out.last.world
    files_then = subst (λ s. HasCome (task_from here p (state_on out.ran.begun out.ran.rows_end.base)) s out.mid.works (changes_of out.ran.rows_end.since) out.last.world) (wrote_then g stored p plan places) there.came

    pub beside_planned : Each (IsClearBeside new.world) (unit_works g)
    beside_planned = subst (Each (IsClearBeside new.world)) (works_are g stored p plan places)
        (each_map IsNamed (IsClearBeside left.followed) (IsClearBeside new.world)
        (λ x named clear. record {
          backup = clear_at (new.world x.backup) (left.followed x.backup) (same_there x.backup (name_out x named x.backup (λ m. m.backup refl))) clear.backup;
          fresh = clear_at (new.world x.fresh) (left.followed x.fresh) (same_there x.fresh (name_out x named x.fresh (λ m. m.fresh refl))) clear.fresh;
        })
        p.works plan.works_are.named
        (all_beside (state_on out.ran.begun out.ran.rows_end.base) out.mid.works (changes_of out.ran.rows_end.since) out.mid.lists (put_records (commit_records here p out.mid.works out.mid.lists out.mid.database.records) out.mid.database.records) out.last.world left.followed
        ordered_then files_then left.has_followed))

    pub old_planned : LeavesNoOldFile g new.world
    old_planned =
        let before = no_old_file out.mid.works out.mid.lists (put_records (commit_records here p out.mid.works out.mid.lists out.mid.database.records) out.mid.database.records) out.last.world left.followed left.has_followed in
        record {
          fresh = before.fresh;
          is_fresh = before.is_fresh;
          paths = before.paths;
          are = before.are;
          none = λ path listed plain goes.
              let at = place g.ways (unit_name g) path in
              let inside : is_within home_path at ≡ false =
              third_fails (is_led_to g.ways at) (is_within home_path at) (is_place_of g.ways (unit_name g) before.paths at) (has_other_owner g.ways g.lists (unit_name g) at) goes in
              clear_at (new.world at) (left.followed at) (same_there at (false_from_ne_true (is_below_administration at) (λ below. true≢false (sym (below_within at below) ∙ inside)))) (before.none path listed plain goes);
        }

module _ (g : Given) (places : List Path) (after : Recorded) (lists : List PackageList) (old new : State) (told now : List Called) (unpacked : HasUnpacked g places Committed after lists old new told now) (honest : IsTrue new.honest) where
  pub beside_unit : Each (IsClearBeside new.world) (unit_works g)
  beside_unit = beside_planned g unpacked.plan_for.stored unpacked.plan unpacked.plan_for.planned places after lists old new told now unpacked.carried_out honest

  pub old_unit : LeavesNoOldFile g new.world
  old_unit = old_planned g unpacked.plan_for.stored unpacked.plan unpacked.plan_for.planned places after lists old new told now unpacked.carried_out honest
