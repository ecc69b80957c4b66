-- The file row and its undo: each leads from a place of the rows to the next.
use Rattle.std.proofs.Common.{◌≡◌, inl, inr, ℕ, ◌+◌, ◌<◌, ◌≤◌, false, cond, List, [], ◌∷◌, ◌++◌, Option, Some, None, IsTrue, length, get_or, refl, sym, ap, subst, ◌∙◌, append_assoc, arith}
use Rattle.std.specs.Prelude.{MatchOption}
use Rattle.std.proofs.lemmas.List.{append-nil}
use Rattle.host_core.specs.Paths.{Path}
use Rattle.host_core.specs.World.{World, Change, IsFile}
use Rattle.host_core.specs.Events.{Event, Did, Finished, Cut, Denied, Failed as AFailure, Ran, calls_of, changes_of, scripts_of}
use Rattle.host_core.specs.Host.{State, AtEachMoment, Silent, Since, calls, finished}
use Rattle.host_core.proofs.Moments.{scripts_of-append}
use Rattle.host_core.specs.Nodes.{own_access}
use Rattle.host_core.proofs.Scripts.{calls_of-append, calls_of-finished, calls_of-scripts, changes_of-append, no_change, silent_added}
use Rattle.administration.specs.Places.{list_path}
use Rattle.undo_rows.specs.Place.{Back, Forward, Place, is_declined, worked}
use Rattle.undo_rows.specs.Stops.{AtEachStop}
use Rattle.undo_rows.proofs.Stops.{stops_quiet}
use Rattle.undo_rows.specs.declared.failed.Failed.{Failed}
use Rattle.file_check.specs.Clashes.{owning}
use Rattle.file_check.specs.Sound.{AllSound}
use Rattle.file_lists.specs.Filed.{Filed}
use Rattle.file_lists.specs.Writing.{list_file, list_text, with_list}
use Rattle.file_check.specs.Rearranged.{IsRearranged}
use Rattle.package_files.specs.declared.work.Work.{Work}
use Rattle.package_files.specs.Files.{Each}
use Rattle.package_files.specs.Free.{IsWrittenFrom}
use Rattle.package_files.specs.Names.{AllInOrder, IsNamed}
use Rattle.package_files.specs.Back.{CanGoBack}
use Rattle.status_db.specs.Held.{HasRecords}
use Rattle.status_db.specs.Recorded.{Recorded}
use Rattle.listed_files.specs.Listing.{HasTurnedBack, HasUnlisted, MayUnlist}
use Rattle.unpack_rows.proofs.Growth.{notes_put_back, notes_worked}
use Rattle.unpack_rows.proofs.Staging.{marked, stage_before, stage_failed, stage_put_back, stage_wrote}
use Rattle.unpack_rows.specs.Notes.{noted, notes_at}
use Rattle.unpack_rows.specs.Stages.{Stage, Unwritten, Wrote, Restored, stage_of}
use Rattle.unpack_rows.specs.declared.kinds.RowKind.{RowKind}
use Rattle.unpack_rows.specs.declared.kinds.RowKind.TheVariants.{Files}
use Rattle.undo_rows.specs.declared.fall.Fall.{Fall}
use Rattle.undo_rows.specs.declared.fall.StepFault.{StepFault}
use Rattle.undo_rows.specs.declared.fall.StepFault.TheVariants.{Declined}
use Rattle.unpack_steps.specs.At.{AreWorksAt, At, HasFault, IsAmid, IsFileFault, IsMarked, IsStepFault, IsWithin, Stops, holding, table_at}
use Rattle.unpack_steps.specs.FileMoves.{HasWrittenRow, MayWriteRow, places_before, places_of}
use Rattle.unpack_steps.specs.Clearing.{HasCleared, next_ready}
use Rattle.unpack_steps.specs.Follows.{follows_none}
use Rattle.unpack_steps.specs.Stays.{clear_here}
use Rattle.unpack_steps.specs.Task.{IsFileRow, Task, all_places, based_on, has_gone, kinds, lists_at, name, places_at}
use Rattle.unpack_steps.specs.Trail.{AreOrdered, Follows, HasCome, HasFiles}
use Rattle.unpack_steps.proofs.FileWorlds.{home_before, still_written}
use Rattle.unpack_steps.proofs.Going.{gone_at_files, gone_worked}
use Rattle.unpack_steps.proofs.Rearranged.{length_rearranged, named_rearranged, places_cut, places_enough}
use Rattle.unpack_steps.proofs.RowKinds.{kind_at}
use Rattle.unpack_steps.proofs.Standing.{Stands, listed_stands, turned_stands, turning_stands, unlisted_stands, unlisting_stands}

list_is_file : (paths : List Path) → IsFile (list_file paths)
list_is_file paths = (list_text paths, own_access 0o644, refl)

changes_of_scripts : (es : List Event) → changes_of (scripts_of es) ≡ changes_of es
changes_of_scripts [] = refl
changes_of_scripts (Did s ∷ es) = changes_of_scripts es
changes_of_scripts (Finished ran ∷ es) = ap (λ (l : Change). ran.change ++ l) (changes_of_scripts es)
changes_of_scripts (Cut call change ∷ es) = ap (λ (l : Change). change ++ l) (changes_of_scripts es)
changes_of_scripts (AFailure ∷ es) = changes_of_scripts es
changes_of_scripts (Denied path ∷ es) = changes_of_scripts es

-- more was done at a place, and no script called
module _ (t : Task) (d : Recorded) (lists : Filed) (places : List Path) (works : List Work) (s : State) (place : Place) (at : At t (holding d lists places works) s place) where
  abbrev base_now : Task
  base_now = based_on t at.base

  module _ (more : List Event) (none : scripts_of more ≡ []) where
    scripts_same : scripts_of (at.since ++ more) ≡ finished at.ran
    scripts_same = scripts_of-append at.since more ∙ ap (λ (l : List Event). scripts_of at.since ++ l) none ∙ append-nil (scripts_of at.since) ∙ at.ended

    changes_same : changes_of (at.since ++ more) ≡ changes_of at.since
    changes_same = changes_of-append at.since more ∙ ap (λ (l : Change). changes_of at.since ++ l) (no_change more none) ∙ append-nil (changes_of at.since)

    events_grown : s.events ++ more ≡ t.start.events ++ (at.since ++ more)
    events_grown = ap (λ (l : List Event). l ++ more) at.events ∙ append_assoc t.start.events at.since more

    stop_amid : IsTrue s.honest → (w : World) → Stands d.records d.notes (name t) w → IsAmid base_now (table_at t place) (changes_of at.since) w → Stops t (s.events ++ more) w
    stop_amid h w stands files = record {
      since = at.since ++ more;
      events = events_grown;
      place = place;
      within = at.within;
      records = subst (HasRecords w) at.records stands.kept.holds;
      opens = record { unblocked = stands.kept.unblocked; table = d.records; records = stands.kept.holds };
      ready = stands.ready;
      base = at.base;
      cleared = clear_here (has_gone t place) (has_gone t (next_ready place)) (name t) t.start.world at.base (at.cleared h);
      files = subst (λ c. IsAmid base_now (table_at t place) c w) (sym changes_same) files;
    }

  stands_here : IsTrue s.honest → Stands d.records d.notes (name t) s.world
  stands_here h = record { kept = (at.world h).kept; ready = (at.world h).ready }

  -- at the next place, with other lists, places and works
  module _ (u : State) (silent : Silent s u) (P : List Event → World → Type 0) (moments : Since P s u) (next : Place) (stage : Stage) (stage_is : stage_of (kinds t) next ≡ stage) where
    at_next : (filed : Filed) (now : List Path) (ordered : List Work) → has_gone t next ≡ has_gone t place → notes_at t.found t.incoming (kinds t) next ≡ notes_at t.found t.incoming (kinds t) place
        → IsWithin (length (kinds t)) next → filed.lists ≡ lists_at t stage → filed.closed ≡ false → now ≡ places_at t stage → AreWorksAt t next stage ordered
        → (IsTrue u.honest → Stands d.records d.notes (name t) u.world) → (IsTrue u.honest → HasCome base_now stage ordered (changes_of at.since) u.world) → At t (holding d filed now ordered) u next
    at_next filed now ordered gone notes within lists_are opened places_are works_are stands came =
        let none = silent_added s u moments.added silent moments.events in
        record {
          sound = at.sound;
          falls = λ h. at.falls (silent.honest h);
          within = within;
          records = at.records ∙ ap (noted t.records) (sym notes);
          opened = at.opened;
          lists = lists_are ∙ ap (lists_at t) (sym stage_is);
          lists_open = opened;
          places = places_are ∙ ap (places_at t) (sym stage_is);
          works = subst (λ st. AreWorksAt t next st ordered) (sym stage_is) works_are;
          since = at.since ++ moments.added;
          events = moments.events ∙ events_grown moments.added none;
          ran = at.ran;
          ended = scripts_same moments.added none;
          base = at.base;
          cleared = λ h. subst (λ b. HasCleared b (name t) t.start.world at.base) (sym gone) (at.cleared (silent.honest h));
          members = λ h. at.members (silent.honest h);
          world = λ h. record {
            kept = (stands h).kept;
            ready = (stands h).ready;
            came = subst (λ c. HasCome base_now (stage_of (kinds t) next) ordered c u.world) (sym (changes_same moments.added none)) (subst (λ st. HasCome base_now st ordered (changes_of at.since) u.world) (sym stage_is) (came h));
          };
        }

-- the work of the file row

module _ (t : Task) (d : Recorded) (lists : Filed) (places : List Path) (works : List Work) (s : State) (i : ℕ) (row : IsFileRow (kinds t) i) (at : At t (holding d lists places works) s (Forward i)) where
  abbrev k : RowKind
  k = (kind_at (kinds t) i row.0).0

  k_is : k ≡ get_or (kinds t) i k
  k_is = (kind_at (kinds t) i row.0).1

  files : k ≡ Files
  files = row.1 k k_is

  unwritten : stage_of (kinds t) (Forward i) ≡ Unwritten
  unwritten = stage_before t.found t.others i k row.0 k_is files

  pub lists_before : lists.lists ≡ t.lists
  lists_before = at.lists ∙ ap (lists_at t) unwritten

  places_are : places ≡ t.places
  places_are = at.places ∙ ap (places_at t) unwritten

  pub works_before : works ≡ t.works
  works_before = subst (λ st. AreWorksAt t (Forward i) st works) unwritten at.works

  came_before : IsTrue s.honest → Follows t.places (changes_of at.since) at.base s.world
  came_before h = subst (λ st. HasCome (based_on t at.base) st works (changes_of at.since) s.world) unwritten (at.world h).came

  notes_still : (fault : Option StepFault) → notes_at t.found t.incoming (kinds t) (worked i fault) ≡ notes_at t.found t.incoming (kinds t) (Forward i)
  notes_still fault = notes_worked t.found t.incoming (kinds t) i k row.0 k_is files fault

  pub named_here : Each IsNamed works
  named_here = subst (Each IsNamed) (sym works_before) at.sound.works

  marked_here : IsMarked t (table_at t (Forward i))
  marked_here = subst (λ l. IsMarked t (noted t.records l)) (notes_still None) (marked t.found t.incoming t.others t.records (worked i None) (stage_wrote (kinds t) i k row.0 k_is files))

  moved_from : (ordered : List Work) → IsRearranged works ordered → IsRearranged t.works ordered
  moved_from ordered moved = subst (λ (l : List Work). IsRearranged l ordered) works_before moved

  -- the step fault
  fault_by : (w : World) (fault : Option StepFault)
      → MatchOption fault (AllSound (owning t.ways lists.lists t.yields (name t)) works w) (IsStepFault (owning t.ways lists.lists t.yields (name t)) works w) → HasFault t w fault
  fault_by w None judged =
      subst (λ (l : List Work). AllSound (owning t.ways t.lists t.yields (name t)) l w) works_before (subst (λ ls. AllSound (owning t.ways ls t.yields (name t)) works w) lists_before judged)
  fault_by w (Some fault) judged =
      subst (λ (l : List Work). IsStepFault (owning t.ways t.lists t.yields (name t)) l w fault) works_before (subst (λ ls. IsStepFault (owning t.ways ls t.yields (name t)) works w fault) lists_before judged)

  pub file_fault : (fault : Option StepFault) → IsTrue s.honest
      → MatchOption fault (AllSound (owning t.ways lists.lists t.yields (name t)) works s.world) (IsStepFault (owning t.ways lists.lists t.yields (name t)) works s.world) → IsFileFault t (calls s) fault
  file_fault fault h judged = record {
    ran = at.ran;
    calls_are = ap calls_of at.events ∙ calls_of-append t.start.events at.since
        ∙ ap (λ (l : List Ran). calls_of t.start.events ++ l) (sym (calls_of-scripts at.since) ∙ ap calls_of at.ended ∙ calls_of-finished at.ran);
    base = at.base;
    cleared = subst (λ b. HasCleared b (name t) t.start.world at.base) (gone_at_files t i k row.0 k_is files) (at.cleared h);
    found = s.world;
    came = subst (λ c. Follows t.places c at.base s.world) (sym (changes_of_scripts at.since) ∙ ap changes_of at.ended) (came_before h);
    has = fault_by s.world fault judged;
  }

  module _ (u : State) (silent : Silent s u) where
    -- nothing was written
    pub at_stopped : (P : List Event → World → Type 0) → Since P s u → (fault : StepFault) → is_declined (Some fault) ≡ false → (filed : Filed) (now : List Path) (ordered : List Work) → filed ≡ lists → now ≡ places → (IsTrue u.honest → u.world ≡ s.world)
        → At t (holding d filed now ordered) u (worked i (Some fault))
    at_stopped P moments fault found filed now ordered filed_is now_is world =
        at_next t d lists places works s (Forward i) at u silent P moments (worked i (Some fault)) Unwritten (stage_failed t.found t.others i k row.0 k_is files fault ∙ ap (λ b. cond b Restored Unwritten) found) filed now ordered (gone_worked t i k row.0 k_is files (Some fault)) (notes_still (Some fault))
        (omega arith, row.0) (ap (λ (f : Filed). f.lists) filed_is ∙ lists_before) (ap (λ (f : Filed). f.closed) filed_is ∙ at.lists_open) (now_is ∙ places_are) tt
        (λ h. subst (Stands d.records d.notes (name t)) (sym (world h)) (stands_here t d lists places works s (Forward i) at (silent.honest h)))
        (λ h. subst (Follows t.places (changes_of at.since) at.base) (sym (world h)) (came_before (silent.honest h)))

    -- all was written
    has_files : (ordered : List Work) → IsTrue s.honest → HasWrittenRow (list_path (name t)) (list_file t.union) ordered s.world u.world → HasFiles (based_on t at.base) ordered (changes_of at.since) u.world
    has_files ordered h wrote = record {
      early = changes_of at.since;
      late = [];
      changes = sym (append-nil (changes_of at.since));
      found = s.world;
      written = u.world;
      before = came_before h;
      home = (at.world h).kept.unblocked.home;
      listed = wrote.listed;
      from = wrote.from;
      since = follows_none (all_places t) u.world;
    }

    pub at_written : (P : List Event → World → Type 0) → Since P s u → (filed : Filed) (now : List Path) (ordered : List Work) → filed ≡ record lists { lists = with_list (name t) t.union lists.lists }
        → now ≡ places ++ places_of works → IsRearranged works ordered → Each IsNamed ordered → AllInOrder ordered → (IsTrue u.honest → HasWrittenRow (list_path (name t)) (list_file t.union) ordered s.world u.world)
        → At t (holding d filed now ordered) u (worked i None)
    at_written P moments filed now ordered filed_is now_is moved named order wrote =
        at_next t d lists places works s (Forward i) at u silent P moments (worked i None) Wrote (stage_wrote (kinds t) i k row.0 k_is files) filed now ordered (gone_worked t i k row.0 k_is files None) (notes_still None)
        (omega (arith, row.0)) (ap (λ (f : Filed). f.lists) filed_is ∙ ap (with_list (name t) t.union) lists_before) (ap (λ (f : Filed). f.closed) filed_is ∙ at.lists_open)
        (now_is ∙ (λ j. places_are j ++ places_of (works_before j))) (record { same = moved_from ordered moved; named = named; order = order })
        (λ h. listed_stands d.records d.notes (name t) ordered named (list_file t.union) (list_is_file t.union) s.world u.world (stands_here t d lists places works s (Forward i) at (silent.honest h)) (wrote h).listed)
        (λ h. has_files ordered (silent.honest h) (wrote h))

    -- a step was declined, and all was put back
    pub at_turned : (P : List Event → World → Type 0) → Since P s u → (path : Path) (filed : Filed) (now : List Path) (ordered : List Work)
        → filed ≡ record lists { lists = with_list (name t) t.listed (with_list (name t) t.union lists.lists) } → now ≡ places → IsRearranged works ordered → Each IsNamed ordered → AllInOrder ordered
        → (IsTrue u.honest → HasTurnedBack (list_path (name t)) (list_file t.union) (list_file t.listed) ordered s.world u.world) → At t (holding d filed now ordered) u (worked i (Some (Declined path)))
    at_turned P moments path filed now ordered filed_is now_is moved named order turned =
        at_next t d lists places works s (Forward i) at u silent P moments (worked i (Some (Declined path))) Restored (stage_failed t.found t.others i k row.0 k_is files (Declined path)) filed now ordered
        (gone_worked t i k row.0 k_is files (Some (Declined path))) (notes_still (Some (Declined path)))
        (omega arith, row.0) (ap (λ (f : Filed). f.lists) filed_is ∙ ap (λ ls. with_list (name t) t.listed (with_list (name t) t.union ls)) lists_before) (ap (λ (f : Filed). f.closed) filed_is ∙ at.lists_open)
        (now_is ∙ places_are) (record { same = moved_from ordered moved; named = named; order = order })
        (λ h. turned_stands d.records d.notes (name t) ordered named (list_file t.union) (list_file t.listed) (list_is_file t.union) (list_is_file t.listed) s.world u.world
        (stands_here t d lists places works s (Forward i) at (silent.honest h)) (turned h))
        (λ h. record {
          early = changes_of at.since;
          late = [];
          changes = sym (append-nil (changes_of at.since));
          back = u.world;
          put = inr (record { found = s.world; before = came_before (silent.honest h); home = (at.world (silent.honest h)).kept.unblocked.home; turned = turned h });
          since = follows_none t.places u.world;
        })

    stop_writing : IsTrue s.honest → (so_far : List Event) (w : World) → scripts_of so_far ≡ [] → MayWriteRow (list_path (name t)) (list_file t.union) (list_file t.listed) works s.world w → Stops t (s.events ++ so_far) w
    stop_writing h so_far w none (inl same) =
        stop_amid t d lists places works s (Forward i) at so_far none h w (subst (Stands d.records d.notes (name t)) (sym same) (stands_here t d lists places works s (Forward i) at h))
        (IsAmid.untouched (subst (Follows t.places (changes_of at.since) at.base) (sym same) (came_before h)))
    stop_writing h so_far w none (inr may) =
        stop_amid t d lists places works s (Forward i) at so_far none h w
        (turning_stands d.records d.notes (name t) may.0 (named_rearranged works may.0 may.1 named_here) (list_file t.union) (list_file t.listed) (list_is_file t.union) (list_is_file t.listed) s.world w (stands_here t d lists places works s (Forward i) at h) may.2)
        (IsAmid.writing may.0 s.world (moved_from may.0 may.1) marked_here (came_before h) may.2)

    pub writing_stops : AtEachMoment (MayWriteRow (list_path (name t)) (list_file t.union) (list_file t.listed) works) s u → AtEachStop (Stops t) s u
    writing_stops since = stops_quiet (Stops t) (λ so_far. MayWriteRow (list_path (name t)) (list_file t.union) (list_file t.listed) works s.world) s u silent since (λ h so_far w none is. stop_writing (silent.honest h) so_far w none is)

-- its undo, where it has written

module _ (t : Task) (d : Recorded) (lists : Filed) (places : List Path) (works : List Work) (s : State) (i : ℕ) (fall : Fall) (failed : List Failed) (row : IsFileRow (kinds t) i) (less : i < fall.row)
    (at : At t (holding d lists places works) s (Back (i + 1) fall failed)) where
  abbrev kind : RowKind
  kind = (kind_at (kinds t) i row.0).0

  kind_is : kind ≡ get_or (kinds t) i kind
  kind_is = (kind_at (kinds t) i row.0).1

  are_files : kind ≡ Files
  are_files = row.1 kind kind_is

  wrote : stage_of (kinds t) (Back (i + 1) fall failed) ≡ Wrote
  wrote = (stage_put_back t.found t.others i kind fall failed row.0 kind_is are_files less).0

  pub ordered_there : AreOrdered t works
  ordered_there = subst (λ st. AreWorksAt t (Back (i + 1) fall failed) st works) wrote at.works

  places_there : places ≡ all_places t
  places_there = at.places ∙ ap (places_at t) wrote

  came_there : IsTrue s.honest → HasFiles (based_on t at.base) works (changes_of at.since) s.world
  came_there h = subst (λ st. HasCome (based_on t at.base) st works (changes_of at.since) s.world) wrote (at.world h).came

  from_there : (has : HasFiles (based_on t at.base) works (changes_of at.since) s.world) → IsWrittenFrom works has.listed.mid s.world
  from_there has = still_written (based_on t at.base) works (changes_of at.since) s.world has ordered_there.same ordered_there.named

  pub can_go_back : IsTrue s.honest → CanGoBack works s.world
  can_go_back h = let has = came_there h in (has.listed.mid, from_there has)

  as_many : length works ≡ length t.works
  as_many = length_rearranged t.works works ordered_there.same

  pub enough : length works ≤ length places
  enough = subst (λ (l : List Path). length works ≤ length l) (sym places_there) (places_enough t.places t.works works as_many)

  marked_there : IsMarked t (table_at t (Back (i + 1) fall failed))
  marked_there = marked t.found t.incoming t.others t.records (Back (i + 1) fall failed) wrote

  module _ (u : State) (silent : Silent s u) where
    pub at_back : (P : List Event → World → Type 0) → Since P s u → (filed : Filed) (now : List Path) → filed ≡ record lists { lists = with_list (name t) t.listed lists.lists } → now ≡ places_before places works
        → (IsTrue u.honest → HasUnlisted (list_path (name t)) (list_file t.listed) works s.world u.world) → At t (holding d filed now works) u (Back i fall failed)
    at_back P moments filed now filed_is now_is undone =
        at_next t d lists places works s (Back (i + 1) fall failed) at u silent P moments (Back i fall failed) Restored (stage_put_back t.found t.others i kind fall failed row.0 kind_is are_files less).1 filed now works refl
        (notes_put_back t.found t.incoming (kinds t) i kind kind_is fall failed (omega (arith, less)) at.within.1 are_files)
        (omega (arith, less), at.within.1) (ap (λ (f : Filed). f.lists) filed_is ∙ ap (with_list (name t) t.listed) (at.lists ∙ ap (lists_at t) wrote)) (ap (λ (f : Filed). f.closed) filed_is ∙ at.lists_open)
        (now_is ∙ ap (λ (l : List Path). places_before l works) places_there ∙ places_cut t.places t.works works as_many) ordered_there
        (λ h.
        let has = came_there (silent.honest h) in
        unlisted_stands d.records d.notes (name t) works ordered_there.named (list_file t.listed) (list_is_file t.listed) s.world u.world (stands_here t d lists places works s (Back (i + 1) fall failed) at (silent.honest h))
        has.listed.mid (from_there has) (home_before (based_on t at.base) works (changes_of at.since) s.world has) (undone h))
        (λ h. record {
          early = changes_of at.since;
          late = [];
          changes = sym (append-nil (changes_of at.since));
          back = u.world;
          put = inl (record { last = s.world; files = came_there (silent.honest h); unlisted = undone h });
          since = follows_none t.places u.world;
        })

    stop_back : IsTrue s.honest → (so_far : List Event) (w : World) → scripts_of so_far ≡ [] → MayUnlist (list_path (name t)) (list_file t.listed) works s.world w → Stops t (s.events ++ so_far) w
    stop_back h so_far w none may =
        let has = came_there h in
        stop_amid t d lists places works s (Back (i + 1) fall failed) at so_far none h w
        (unlisting_stands d.records d.notes (name t) works ordered_there.named (list_file t.listed) (list_is_file t.listed) s.world w (stands_here t d lists places works s (Back (i + 1) fall failed) at h)
        has.listed.mid (from_there has) (home_before (based_on t at.base) works (changes_of at.since) s.world has) may)
        (IsAmid.going_back works s.world ordered_there.same marked_there has may)

    pub back_stops : AtEachMoment (MayUnlist (list_path (name t)) (list_file t.listed) works) s u → AtEachStop (Stops t) s u
    back_stops since = stops_quiet (Stops t) (λ so_far. MayUnlist (list_path (name t)) (list_file t.listed) works s.world) s u silent since (λ h so_far w none is. stop_back (silent.honest h) so_far w none is)
