-- What stays the same while the rows of an unpack run (Policy 6.6).
use Rattle.std.specs.Prelude.{◌≡◌, ℕ, ◌<◌, Bool, true, List, Option, map, ◌++◌, get_or, length}
use Rattle.host_core.specs.Paths.{Path}
use Rattle.host_core.specs.World.{World}
use Rattle.host_core.specs.Host.{State}
use Rattle.texts.specs.PackageNames.{is_package_name}
use Rattle.diversions.specs.Ways.{Ways}
use Rattle.file_lists.specs.Filed.{Filed}
use Rattle.file_lists.specs.Owners.{AreListPaths}
use Rattle.file_lists.specs.Writing.{with_list}
use Rattle.file_lists.specs.declared.paths.PackageList.{PackageList}
use Rattle.file_check.specs.Ready.{IsFitting}
use Rattle.package_files.specs.Files.{Each}
use Rattle.package_files.specs.Names.{IsNamed}
use Rattle.package_files.specs.declared.work.Work.{Work}
use Rattle.held_administration.specs.declared.held.Administration.{Administration}
use Rattle.status_db.specs.Recorded.{Recorded}
use Rattle.status_records.specs.Records.{AreStanding}
use Rattle.status_records.specs.declared.record.Record.{Record}
use Rattle.unpack_rows.specs.EndStates.{AreConcerned, own_name}
use Rattle.unpack_rows.specs.Kinds.{kinds_of}
use Rattle.unpack_rows.specs.Stages.{Stage, Unwritten, Wrote, Restored}
use Rattle.undo_rows.specs.Place.{Place}
use Rattle.unpack_rows.specs.declared.kinds.RowKind.{RowKind}
use Rattle.unpack_rows.specs.declared.kinds.RowKind.TheVariants.{Files}
use Rattle.unpack_steps.specs.declared.plan.Rows.{Rows}
use Rattle.unpack_steps.specs.Clearing.{is_gone}

pub record Task : Type 0 where
  -- the host where the rows begin
  pub start : State
  -- the records, the lists and the diversions there, and the places that scripts leave alone
  pub records : List Record
  pub lists : List PackageList
  pub ways : Ways
  pub places : List Path
  -- the package's record, if it has one, and the one that is noted where it has none
  pub found : Option Record
  pub incoming : Record
  -- the records of other packages that have rows
  pub others : List Record
  -- the packages with which no path clashes
  pub yields : List (List ℕ)
  -- what the package ships, in path order
  pub works : List Work
  -- the list that it had, and that with the paths to come beside the old ones
  pub listed : List Path
  pub union : List Path

-- the rows of this plan, begun in this state of the host with these values
abbrev pub task_of : State → Recorded → Filed → Ways → List Path → List Work → Rows → Task
task_of start database lists ways places works plan = record {
  start = start;
  records = database.records;
  lists = lists.lists;
  ways = ways;
  places = places;
  found = plan.found;
  incoming = plan.incoming;
  others = plan.others.items;
  yields = plan.yields;
  works = works;
  listed = plan.listed;
  union = plan.union;
}

-- the same with what is held of an administration
abbrev pub task_by : State → Administration → Ways → List Work → Rows → Task
task_by start a ways works plan = task_of start a.database a.lists ways a.places works plan

-- a host in which this stands
abbrev pub state_on : State → World → State
state_on s w = record { honest = s.honest; world = w; events = s.events }

-- the same, as if this had stood there where the rows began
abbrev pub based_on : Task → World → Task
based_on t w = record t { start = state_on t.start w }

module _ (t : Task) where
  abbrev pub name : List ℕ
  name = own_name t.found t.incoming

  abbrev pub kinds : List RowKind
  kinds = kinds_of t.found t.others

  -- nothing is left of what stood under the name of a package without a record
  abbrev pub has_gone : Place → Bool
  has_gone place = is_gone t.found (length t.others) place

  -- the places of the shipped paths
  abbrev pub shipped_places : List Path
  shipped_places = map (λ (x : Work). x.place) t.works

  -- what scripts leave alone once the list has the paths to come
  abbrev pub all_places : List Path
  all_places = t.places ++ shipped_places

  -- the lists with the package's in each stage of the files
  abbrev pub lists_at : Stage → List PackageList
  lists_at Unwritten = t.lists
  lists_at Wrote = with_list name t.union t.lists
  lists_at Restored = with_list name t.listed (with_list name t.union t.lists)

  abbrev pub places_at : Stage → List Path
  places_at Unwritten = t.places
  places_at Wrote = all_places
  places_at Restored = t.places

  -- the names, records, lists and works fit one another
  pub record IsSound : Type 0 where
    pub named : is_package_name name ≡ true
    pub concerned : AreConcerned t.found t.incoming t.others t.records
    pub standing : AreStanding t.records
    pub union : AreListPaths t.union
    pub listed : AreListPaths t.listed
    pub works : Each IsNamed t.works
    pub fitting : Each IsFitting t.works

-- the row of this index is that of the files
abbrev pub IsFileRow : List RowKind → ℕ → Type 0
IsFileRow kinds index = (index < length kinds) × ((k : RowKind) → k ≡ get_or kinds index k → k ≡ Files)
