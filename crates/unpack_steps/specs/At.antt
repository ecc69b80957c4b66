-- What holds while the rows of an unpack run: at each place of the run, and at each moment.
use Rattle.std.specs.Prelude.{◌≡◌, ◌<◌, ◌≤◌, ◌+◌, ℕ, Bool, false, IsTrue, List, ◌++◌, Option, Some, None, is_some, length, not}
use Rattle.host_core.specs.Paths.{Path}
use Rattle.host_core.specs.World.{World, Change}
use Rattle.host_core.specs.Events.{Event, Ran, changes_of, scripts_of}
use Rattle.host_core.specs.Host.{State, Falls, calls, finished}
use Rattle.administration.specs.Places.{list_path}
use Rattle.undo_rows.specs.declared.fall.StepFault.{StepFault}
use Rattle.undo_rows.specs.declared.fall.StepFault.TheVariants.{LinkParent, NoParent, DirInWay, Clash, DiversionTarget, Declined}
use Rattle.undo_rows.specs.Place.{Place, Forward, Ready, Back}
use Rattle.control_members.specs.Stored.{IsMembersReady}
use Rattle.file_check.specs.Clashes.{Owning, owning}
use Rattle.file_check.specs.Sound.{AllSound, IsFirstFault}
use Rattle.file_lists.specs.Filed.{Filed}
use Rattle.file_lists.specs.Writing.{IsListReady, list_file}
use Rattle.file_lists.specs.declared.paths.PackageList.{PackageList}
use Rattle.file_check.specs.Rearranged.{IsRearranged}
use Rattle.package_files.specs.declared.work.Work.{Work}
use Rattle.held_administration.specs.declared.held.Administration.{Administration}
use Rattle.status_db.specs.Held.{CanOpenRecords, HasRecords, IsKept}
use Rattle.status_db.specs.Recorded.{Recorded}
use Rattle.status_records.specs.Records.{record_in}
use Rattle.status_records.specs.declared.record.Record.{Record}
use Rattle.listed_files.specs.Listing.{MayTurnBack, MayUnlist}
use Rattle.unpack_rows.specs.Kinds.{own_of}
use Rattle.unpack_rows.specs.Notes.{half_installed, noted, notes_at}
use Rattle.unpack_rows.specs.Stages.{Stage, Unwritten, Wrote, Restored, stage_of}
use Rattle.unpack_steps.specs.Clearing.{HasCleared, MayClear, next_ready}
use Rattle.unpack_steps.specs.FileMoves.{IsPathOf}
use Rattle.unpack_steps.specs.Task.{Task, IsSound, based_on, has_gone, kinds, lists_at, name, places_at}
use Rattle.unpack_steps.specs.Trail.{AreOrdered, Follows, HasCome, HasFiles, HasGoneBack}

-- what changes while the rows run
pub record Holding : Type 0 where
  pub database : Recorded
  pub lists : List PackageList
  pub lists_closed : Bool
  pub places : List Path
  pub works : List Work

abbrev pub holding : Recorded → Filed → List Path → List Work → Holding
holding database lists places works = record { database = database; lists = lists.lists; lists_closed = lists.closed; places = places; works = works }

-- the same of an administration that is held
abbrev pub holding_by : Administration → List Work → Holding
holding_by a works = holding a.database a.lists a.places works

-- how far rows of this number can be
abbrev pub IsWithin : ℕ → Place → Type 0
IsWithin rows (Forward k) = k ≤ rows
IsWithin rows (Ready k) = k < rows
IsWithin rows (Back k fall failed) = (k ≤ fall.row + 1) × (fall.row < rows)

-- the table of records at a place
abbrev pub table_at : Task → Place → List Record
table_at t place = noted t.records (notes_at t.found t.incoming (kinds t) place)

-- the works as the file row finds them; where it turned back without writing nothing is said of them
abbrev pub AreFound : Task → Place → List Work → Type 0
AreFound t (Forward k) works = works ≡ t.works
AreFound t (Ready k) works = works ≡ t.works
AreFound t (Back k fall failed) works = Unit {0}

-- once it has written they are in the order of their places
abbrev pub AreWorksAt : Task → Place → Stage → List Work → Type 0
AreWorksAt t place Unwritten works = AreFound t place works
AreWorksAt t place Wrote works = AreOrdered t works
AreWorksAt t place Restored works = AreOrdered t works

-- the world at a place, after these changes of script calls
pub record IsThere (t : Task) (g : Holding) (place : Place) (change : Change) (now : World) : Type 0 where
  pub kept : IsKept g.database now
  pub ready : IsListReady (name t) now
  pub came : HasCome t (stage_of (kinds t) place) g.works change now

-- at a place, where what is left under the package's name is gone or isn't
pub record IsAt (t : Task) (gone : Bool) (g : Holding) (s : State) (place : Place) : Type 0 where
  pub sound : IsSound t
  pub falls : Falls t.start s
  pub within : IsWithin (length (kinds t)) place
  pub records : g.database.records ≡ table_at t place
  pub opened : g.database.closed ≡ false
  pub lists : g.lists ≡ lists_at t (stage_of (kinds t) place)
  pub lists_open : g.lists_closed ≡ false
  pub places : g.places ≡ places_at t (stage_of (kinds t) place)
  pub works : AreWorksAt t place (stage_of (kinds t) place) g.works
  -- all script calls since the rows began have ended
  pub since : List Event
  pub events : s.events ≡ t.start.events ++ since
  pub ran : List Ran
  pub ended : scripts_of since ≡ finished ran
  -- what the rows began with, but for what is gone since
  pub base : World
  pub cleared : IsTrue s.honest → HasCleared gone (name t) t.start.world base
  pub members : IsTrue s.honest → IsMembersReady (name t) t.start.world
  pub world : IsTrue s.honest → IsThere (based_on t base) g place (changes_of since) s.world

-- that it is gone goes by the place
abbrev pub At : Task → Holding → State → Place → Type 0
At t g s place = IsAt t (has_gone t place) g s place

-- The step fault of the shipped paths in a world, or none. Where none has one a step of any of them may be declined: that is an
-- outcome, as a script's is.
abbrev pub IsStepFault : Owning → List Work → World → StepFault → Type 0
IsStepFault o works w (LinkParent path) = IsFirstFault o works w (LinkParent path)
IsStepFault o works w (NoParent path) = IsFirstFault o works w (NoParent path)
IsStepFault o works w (DirInWay path) = IsFirstFault o works w (DirInWay path)
IsStepFault o works w (Clash path owner) = IsFirstFault o works w (Clash path owner)
IsStepFault o works w (DiversionTarget path diverter) = IsFirstFault o works w (DiversionTarget path diverter)
IsStepFault o works w (Declined path) = AllSound o works w × IsPathOf works path

abbrev pub HasFault : Task → World → Option StepFault → Type 0
HasFault t w None = AllSound (owning t.ways t.lists t.yields (name t)) t.works w
HasFault t w (Some fault) = IsStepFault (owning t.ways t.lists t.yields (name t)) t.works w fault

-- The step fault of the file row after all these calls of the host: that in a world to which those since the rows began, and
-- notes, have led, and in which nothing is left of what stood under a name without a record.
pub record IsFileFault (t : Task) (past : List Ran) (fault : Option StepFault) : Type 0 where
  pub ran : List Ran
  pub calls_are : past ≡ calls t.start ++ ran
  pub base : World
  pub cleared : HasCleared (not (is_some t.found)) (name t) t.start.world base
  pub found : World
  pub came : Follows t.places (changes_of (finished ran)) base found
  pub has : HasFault t found fault

-- the package is noted as half-installed, to be installed again
abbrev pub IsMarked : Task → List Record → Type 0
IsMarked t table = record_in table (name t) ≡ Some (half_installed (own_of t.found t.incoming))

-- How far the files are at a moment: from the first step outside the administration until they are put back the package is
-- marked, and its list names all that it has and all that comes.
pub data IsAmid (t : Task) (table : List Record) (change : Change) (now : World) : Type 0 where
  untouched : Follows t.places change t.start.world now → IsAmid t table change now
  writing : (works : List Work) (found : World) → IsRearranged t.works works → IsMarked t table
      → Follows t.places change t.start.world found → MayTurnBack (list_path (name t)) (list_file t.union) (list_file t.listed) works found now → IsAmid t table change now
  written : (works : List Work) → IsRearranged t.works works → IsMarked t table → HasFiles t works change now → IsAmid t table change now
  going_back : (works : List Work) (last : World) → IsRearranged t.works works → IsMarked t table
      → HasFiles t works change last → MayUnlist (list_path (name t)) (list_file t.listed) works last now → IsAmid t table change now
  back : (works : List Work) → IsRearranged t.works works → HasGoneBack t works change now → IsAmid t table change now

-- At each moment the next opening finds the records of before with the first of the rows' notes, and nothing in its way. What
-- stands under a name without a record is as before until the row of its new preinst is prepared, and gone then.
pub record Stops (t : Task) (es : List Event) (now : World) : Type 0 where
  pub since : List Event
  pub events : es ≡ t.start.events ++ since
  pub place : Place
  pub within : IsWithin (length (kinds t)) place
  pub records : HasRecords now (table_at t place)
  pub opens : CanOpenRecords now
  pub ready : IsListReady (name t) now
  pub base : World
  pub cleared : MayClear (has_gone t place) (has_gone t (next_ready place)) (name t) t.start.world base
  pub files : IsAmid (based_on t base) (table_at t place) (changes_of since) now

-- the rows can begin: the records stand, and nothing is in the way of the list and the control files
pub record IsBegun (t : Task) (d : Recorded) (w : World) : Type 0 where
  pub kept : IsKept d w
  pub ready : IsListReady (name t) w
  pub members : IsMembersReady (name t) w
