-- The unit of an unpack: what it does, from the world that it finds to the one that it leaves, and what holds at each moment of it
-- (Policy 6.6).
use Rattle.std.specs.Prelude.{◌≡◌, ◌⊎◌, ◌↔◌, ◌+◌, ℕ, Bool, true, false, IsTrue, List, [], ◌∷◌, ◌++◌, Option, Some, None, Contains, is_some, length, nat_le, take}
use Rattle.host_core.specs.Paths.{Path}
use Rattle.host_core.specs.World.{World, KeepsBut}
use Rattle.host_core.specs.Events.{Event, Ran, changes_of, scripts_of}
use Rattle.host_core.specs.Host.{State, Silent, WasDenied, calls}
use Rattle.host_core.specs.Loss.{IsLater}
use Rattle.host_core.specs.declared.call.Script.{Script}
use Rattle.administration.specs.Directories.{IsRemoved}
use Rattle.administration.specs.Files.{IsDropped, IsDropping}
use Rattle.administration.specs.Places.{diversions_path, list_path, script_path, tmp_path, is_within}
use Rattle.undo_rows.specs.declared.rows.Called.{Called}
use Rattle.undo_rows.specs.declared.rows.Row.{Row}
use Rattle.undo_rows.specs.Place.{Place}
use Rattle.undo_rows.specs.Telling.{Begun, HasRun}
use Rattle.undo_rows.specs.Transcript.{Succeed}
use Rattle.undo_rows.specs.Transcripts.{Anyhow, Ended, Committed, Unwound, MayRun}
use Rattle.control_members.specs.LaidOut.{AreLaidOut, IsIncoming, IsLaying}
use Rattle.control_members.specs.declared.member.Member.{Member}
use Rattle.diversions.specs.Diverted.{Diverted}
use Rattle.diversions.specs.Lines.{HasDiversions, IsDamageAt}
use Rattle.diversions.specs.Ways.{Ways}
use Rattle.file_lists.specs.Increasing.{AreIncreasing}
use Rattle.file_lists.specs.Info.{AreLoose}
use Rattle.file_lists.specs.declared.paths.PackageList.{PackageList}
use Rattle.package_files.specs.declared.work.Work.{Work}
use Rattle.held_administration.specs.declared.held.Administration.{Administration}
use Rattle.package_tree.specs.declared.package.Package.{Package}
use Rattle.status_db.specs.Held.{CanOpenRecords, HasRecords}
use Rattle.status_db.specs.Recorded.{Recorded}
use Rattle.status_records.specs.Records.{record_in}
use Rattle.status_records.specs.declared.record.Record.{Record}
use Rattle.undo_rows.specs.Ended.{IsCauseOf}
use Rattle.undo_rows.specs.declared.unwinding.Unwinding.{Unwinding}
use Rattle.unpack_rows.specs.EndStates.{end_of, own_name}
use Rattle.unpack_rows.specs.ForwardRows.{is_present}
use Rattle.unpack_rows.specs.Kinds.{kinds_of}
use Rattle.unpack_rows.specs.Notes.{noted, notes_at}
use Rattle.unpack_rows.specs.Stages.{has_files, stage_of}
use Rattle.unpack_rows.specs.declared.rows.OtherPackage.{OtherPackage}
use Rattle.unpack_rows.specs.declared.rows.Present.{Present}
use Rattle.unpack_steps.specs.Clearing.{MayClear, is_gone, next_ready}
use Rattle.unpack_steps.specs.Task.{Task, lists_at}
use Rattle.unpack_steps.specs.Trail.{HasCome}
use Rattle.unpack_steps.specs.At.{AreWorksAt, At, Holding, IsFileFault, Stops}
use Rattle.unpack_commit.specs.Commit.{Changes, HasCommitted, HasCommittedUnless, MayCommit, committed_lists}
use Rattle.unpack_commit.specs.Takeover.{losers, losing_records, put_records, taken_places, yields_of}
use Rattle.unpack_plan.specs.Planned.{Job, Planned, IsPlanned}
use Rattle.unpack_engine.specs.Followed.{AreFollowedAgain, paths_in_hand}
use Rattle.unpack_engine.specs.Others.{AreOthers, yields_beside}

-- the tree, and what the administration says of records and lists when the unit begins, and of diversions as it begins and as its
-- files are checked: by the first conffiles change their package, by the other paths have their places; the other packages that
-- have rows, and packages with whose files no path clashes
pub record Given : Type 0 where
  pub «package» : Package
  pub records : List Record
  pub lists : List PackageList
  pub begun : Ways
  pub ways : Ways
  pub others : List OtherPackage
  pub yields : List (List ℕ)

abbrev pub given_beside : Package → List Record → List PackageList → (begun ways : Ways) → List OtherPackage → List (List ℕ) → Given
given_beside «package» records lists begun ways others yields =
    record { «package» = «package»; records = records; lists = lists; begun = begun; ways = ways; others = others; yields = yields }

-- what is held of the administration says so
abbrev pub given_from : Package → Administration → (begun ways : Ways) → List OtherPackage → List (List ℕ) → Given
given_from «package» a begun ways others yields = given_beside «package» a.database.records a.lists.lists begun ways others yields

-- where no other package has a row or yields, and the diversions stay
abbrev pub given : Package → List Record → List PackageList → Ways → Given
given «package» records lists ways = given_beside «package» records lists ways ways [] []

-- with the scripts of the old version that are stored
abbrev pub job_of : Given → Present → Job
job_of g stored =
    record { «package» = g.«package»; records = g.records; lists = g.lists; begun = g.begun; ways = g.ways; stored = stored; others = g.others; yields = g.yields }

-- which scripts are stored with a package, by its record: without one none is looked for
abbrev pub IsSeen : Option Record → List ℕ → World → Present → Type 0
IsSeen None name w stored = (script : Script) → is_present stored script ≡ false
IsSeen (Some r) name w stored = (script : Script) → is_present stored script ≡ is_some (w (script_path name script))

-- these control files are laid out, and nothing else is done
pub record HasBegun (members : List Member) (old new : World) : Type 0 where
  pub lays : KeepsBut (is_within tmp_path) old new
  pub laid : AreLaidOut members new

-- and then what is left in `info` under the name is gone already; or it goes, or all is as before
pub record HasBegunSo (gone goes : Bool) (name : List ℕ) (members : List Member) (old new : World) : Type 0 where
  pub begun : World
  pub begins : HasBegun members old begun
  pub clears : MayClear gone goes name begun new

-- the list of a package that has no record in the end goes too, where the rows went on to its new preinst
abbrev pub HasDropped : (reached : Bool) → Option Record → List ℕ → World → World → Type 0
HasDropped true None name old new = IsDropped (list_path name) old new
HasDropped true (Some r) name old new = new ≡ old
HasDropped false found name old new = new ≡ old

abbrev pub MayDrop : (reached : Bool) → Option Record → List ℕ → World → World → Type 0
MayDrop true None name old now = IsDropping (list_path name) old now
MayDrop true (Some r) name old now = now ≡ old
MayDrop false found name old now = now ≡ old

-- and then `tmp.ci` is gone
pub record HasLeftBy (follows : World → World → Type 0) (old new : World) : Type 0 where
  pub followed : World
  pub has_followed : follows old followed
  pub removed : IsRemoved tmp_path followed new

-- at each moment
pub data MayLeaveBy (follows may_follow : World → World → Type 0) (old now : World) : Type 0 where
  following : may_follow old now → MayLeaveBy follows may_follow old now
  clearing_away : (followed : World) → follows old followed → CanOpenRecords followed → IsLaying followed now → MayLeaveBy follows may_follow old now

-- what follows the rows, of which so many are of other packages: this commit with these records; or for a package that has no
-- record now the end of its list
module _ (c : Changes) (records : List Record) (ways : Ways) (lists : List PackageList) (table : List Record) (others : ℕ) where
  abbrev pub HasFollowed : Ended → World → World → Type 0
  HasFollowed Committed old new = HasCommitted c ways lists (put_records records table) old new
  HasFollowed (Unwound fall failed) old new = HasDropped (nat_le others fall.row) (record_in table c.name) c.name old new

  abbrev pub MayFollow : Ended → World → World → Type 0
  MayFollow Committed old now = MayCommit c ways lists records table old now
  MayFollow (Unwound fall failed) old now = MayDrop (nat_le others fall.row) (record_in table c.name) c.name old now

  -- and then `tmp.ci` goes
  abbrev pub HasLeft : Ended → World → World → Type 0
  HasLeft ended = HasLeftBy (HasFollowed ended)

  -- and of the old version's directories that could go only those stayed whose removal was declined
  abbrev pub HasLeftUnless : (declined : Path → Type 0) → Ended → World → World → Type 0
  HasLeftUnless declined Committed = HasLeftBy (HasCommittedUnless c ways lists declined (put_records records table))
  HasLeftUnless declined (Unwound fall failed) = HasLeft (Unwound fall failed)

  abbrev pub MayLeave : Ended → World → World → Type 0
  MayLeave ended = MayLeaveBy (HasFollowed ended) (MayFollow ended)

  -- of the commit's records those that are noted so far: none before all else in it is done, and all behind it
  abbrev pub noted_by_commit : (old now : World) → MayCommit c ways lists records table old now → List Record
  noted_by_commit old now (MayCommit.renewing may has opens) = []
  noted_by_commit old now (MayCommit.replacing renewed stale first may has opens) = []
  noted_by_commit old now (MayCommit.releasing renewed stored stale first second whole may has opens) = []
  noted_by_commit old now (MayCommit.noting renewed stored released stale first second whole third notes) = notes.front

  abbrev pub noted_so_far : (ended : Ended) (old now : World) → MayLeave ended old now → List Record
  noted_so_far Committed old now (MayLeaveBy.following may) = noted_by_commit old now may
  noted_so_far Committed old now (MayLeaveBy.clearing_away followed has opens rest) = records
  noted_so_far (Unwound fall failed) old now may = []

-- Script calls: rows that begin in some state of the host, before which nothing is called and all is laid out.
pub record HasRunRows (begins : World → World → Type 0) (task : State → Task) (rows : List Row) (ended : Ended) (mid : Holding) (old last : State) (told now : List Called) : Type 0 where
  pub begun : State
  pub quiet : Silent old begun
  pub until : IsLater old begun
  pub begins_so : IsTrue last.honest → begins old.world begun.world
  pub run : HasRun (IsFileFault (task begun)) ended rows begun last told now
  pub between : IsLater begun last
  pub rows_end : At (task begun) mid last (end_of (length rows) ended)

-- at each moment: it begins, or its rows run
pub data IsRunning (begins may_begin : World → World → Type 0) (task : State → Task) (old : World) (so_far : List Event) (now : World) : Type 0 where
  beginning : scripts_of so_far ≡ [] → may_begin old now → IsRunning begins may_begin task old so_far now
  running : (begun : State) (before more : List Event) → so_far ≡ before ++ more → scripts_of before ≡ [] → begins old begun.world
      → Stops (task begun) (begun.events ++ more) now → IsRunning begins may_begin task old so_far now

-- what the unit finds and what doesn't change while it runs: the records and lists, the places that scripts leave alone, and the
-- packages with which no path clashes; and the diversions by which its files go
pub record Ground : Type 0 where
  pub records : List Record
  pub lists : List PackageList
  pub ways : Ways
  pub places : List Path
  pub yields : List (List ℕ)

abbrev pub ground : List Record → List PackageList → Ways → List Path → List (List ℕ) → Ground
ground records lists ways places yields =
    record { records = records; lists = lists; ways = ways; places = places; yields = yields }

-- that of an administration that is held
abbrev pub ground_by : Administration → Ways → List (List ℕ) → Ground
ground_by a ways yields = ground a.database.records a.lists.lists ways a.places yields

module _ (g : Ground) (p : Planned) where
  abbrev pub package_name : List ℕ
  package_name = own_name p.found p.incoming

  -- of the packages with which no path clashes the others
  abbrev pub other_yields : List (List ℕ)
  other_yields = yields_beside package_name g.yields

  -- what stays the same while the rows run, from the host where they begin
  abbrev pub task_from : State → Task
  task_from start = record {
    start = start;
    records = g.records;
    lists = g.lists;
    ways = g.ways;
    places = g.places;
    found = p.found;
    incoming = p.incoming;
    others = p.others;
    yields = g.yields;
    works = p.works;
    listed = p.listed;
    union = p.union;
  }

  -- the packages that lose places to these works, by the lists as the rows left them
  abbrev pub unit_losers : List Work → List PackageList → List (List ℕ)
  unit_losers works lists = losers g.ways (taken_places works) lists other_yields

  -- what the commit does, beside the notes
  abbrev pub changes : List Work → List PackageList → Changes
  changes works lists = record {
    name = package_name;
    leaving = p.leaving;
    listed = p.new_list;
    members = p.members;
    places = taken_places works;
    losers = unit_losers works lists;
    names = p.names;
  }

  -- what it notes: the records that lose conffiles, and the package's own last
  abbrev pub commit_records : List Work → List PackageList → List Record → List Record
  commit_records works lists table = losing_records g.ways (taken_places works) (unit_losers works lists) table ++ p.fresh ∷ []

  -- the records in the end, by how the rows ended and what they left
  abbrev pub end_table : Ended → List Work → List PackageList → List Record → List Record
  end_table Committed works lists table = put_records (commit_records works lists table) table
  end_table (Unwound fall failed) works lists table = table

  -- the lists in the end
  abbrev pub end_lists : Ended → List Work → List PackageList → List PackageList
  end_lists Committed works lists = committed_lists (changes works lists) g.ways lists
  end_lists (Unwound fall failed) works lists = lists

  -- what follows rows that left these works, lists and records: the commit, or the end of what they brought
  abbrev pub HasLeftFrom : Ended → List Work → List PackageList → List Record → World → World → Type 0
  HasLeftFrom ended works lists table = HasLeft (changes works lists) (commit_records works lists table) g.ways lists table (length p.others) ended

  abbrev pub HasLeftUnlessFrom : (declined : Path → Type 0) → Ended → List Work → List PackageList → List Record → World → World → Type 0
  HasLeftUnlessFrom declined ended works lists table =
      HasLeftUnless (changes works lists) (commit_records works lists table) g.ways lists table (length p.others) declined ended

  abbrev pub MayLeaveFrom : Ended → List Work → List PackageList → List Record → World → World → Type 0
  MayLeaveFrom ended works lists table = MayLeave (changes works lists) (commit_records works lists table) g.ways lists table (length p.others) ended

  -- of the commit's records those that are noted so far
  abbrev pub noted_from : (ended : Ended) (works : List Work) (lists : List PackageList) (table : List Record) (old now : World) → MayLeaveFrom ended works lists table old now → List Record
  noted_from ended works lists table = noted_so_far (changes works lists) (commit_records works lists table) g.ways lists table (length p.others) ended

  -- where its rows end
  abbrev pub last_place : Ended → Place
  last_place ended = end_of (length p.rows) ended

  -- the records at a place of the rows
  abbrev pub table_after : Place → List Record
  table_after place = noted g.records (notes_at p.found p.incoming (kinds_of p.found p.others) place)

  -- the lists where the rows end
  abbrev pub lists_after : Ended → State → List PackageList
  lists_after ended begun = lists_at (task_from begun) (stage_of (kinds_of p.found p.others) (last_place ended))

  -- how it begins
  abbrev pub Begins : World → World → Type 0
  Begins = HasBegun p.members

  -- with what is left under the package's name at a place of its rows
  abbrev pub BeginsAt : Place → World → World → Type 0
  BeginsAt place = HasBegunSo (is_gone p.found (length p.others) place) (is_gone p.found (length p.others) (next_ready place)) package_name p.members

  -- How far a unit is: it begins, its rows run, or they have run and what follows is under way.
  pub data IsStage (old : World) (so_far : List Event) (now : World) : Type 0 where
    running : IsRunning Begins IsLaying task_from old so_far now → IsStage old so_far now
    leaving : (ended : Ended) (works : List Work) (begun : State) (last : World) → BeginsAt (last_place ended) old begun.world
        → AreWorksAt (task_from begun) (last_place ended) (stage_of (kinds_of p.found p.others) (last_place ended)) works
        → HasCome (task_from begun) (stage_of (kinds_of p.found p.others) (last_place ended)) works (changes_of so_far) last
        → MayLeaveFrom ended works (lists_after ended begun) (table_after (last_place ended)) last now
        → IsStage old so_far now

  -- The records at a stage: while it begins those of before; while its rows run these with the notes up to their place; then those
  -- that the rows left, with what the commit has noted so far.
  abbrev pub stage_records : (old : World) (so_far : List Event) (now : World) → IsStage old so_far now → List Record
  stage_records old so_far now (IsStage.running (IsRunning.beginning none may)) = g.records
  stage_records old so_far now (IsStage.running (IsRunning.running begun before more is none begins stops)) = table_after stops.place
  stage_records old so_far now (IsStage.leaving ended works begun last begins are come may) =
      let table = table_after (last_place ended) in
      put_records (noted_from ended works (lists_after ended begun) table last now may) table

  -- The unit once it is planned: it begins, calls its rows' scripts and none else, and commits or undoes. These records and lists
  -- are left.
  pub record HasCarriedOut (ended : Ended) (after : Recorded) (lists : List PackageList) (old new : State) (told now : List Called) : Type 0 where
    pub mid : Holding
    pub last : State
    pub ran : HasRunRows Begins task_from p.rows ended mid old last told now
    pub since : Silent last new
    pub later : IsLater last new
    pub leaves : IsTrue new.honest → HasLeftFrom ended mid.works mid.lists mid.database.records last.world new.world
    pub stays : IsTrue new.honest → HasLeftUnlessFrom (WasDenied last new) ended mid.works mid.lists mid.database.records last.world new.world
    pub records : after.records ≡ end_table ended mid.works mid.lists mid.database.records
    pub lists_are : lists ≡ end_lists ended mid.works mid.lists

  -- At each moment of that: it is at some stage, the next opening finds the records at that stage, and nothing that it can't take
  -- away is in its way.
  pub record IsUnderWay (old : World) (so_far : List Event) (now : World) : Type 0 where
    pub stage : IsStage old so_far now
    pub records : HasRecords now (stage_records old so_far now stage)
    pub opens : CanOpenRecords now
    pub incoming : IsIncoming now
    pub loose : AreLoose now

-- no path clashes with packages of which only conffiles are left, nor with those that are given
abbrev pub ground_of : Given → List Path → Ground
ground_of g places = ground g.records g.lists g.ways places (yields_of g.records ++ g.yields)

-- a plan by these records, of some package and other packages that have rows beside it
pub record IsPlanBy (records : List Record) (plan : Planned) : Type 0 where
  pub job : Job
  pub records_are : job.records ≡ records
  pub others : AreOthers job.«package».name records job.others
  pub planned : IsPlanned job plan

-- a plan for what is given, by the scripts that are stored in this world
pub record IsPlanFor (g : Given) (w : World) (honest : Bool) (plan : Planned) : Type 0 where
  pub stored : Present
  pub seen : IsTrue honest → IsSeen (record_in g.records g.«package».name) g.«package».name w stored
  pub planned : IsPlanned (job_of g stored) plan

-- The whole unit: it looks which scripts are stored, and plans; and then it carries the plan out.
pub record HasUnpacked (g : Given) (places : List Path) (ended : Ended) (after : Recorded) (lists : List PackageList) (old new : State) (told now : List Called) : Type 0 where
  pub plan : Planned
  pub plan_for : IsPlanFor g old.world new.honest plan
  pub carried_out : HasCarriedOut (ground_of g places) plan ended after lists old new told now

-- at each moment of it
pub record IsAmid (g : Given) (places : List Path) (old : World) (so_far : List Event) (now : World) : Type 0 where
  pub plan : Planned
  pub plan_for : IsPlanFor g old true plan
  pub under_way : IsUnderWay (ground_of g places) plan old so_far now

-- the same, or it only looks yet
abbrev pub IsAmidUnit : Given → List Path → World → List Event → World → Type 0
IsAmidUnit g places old so_far now = ((now ≡ old) × (scripts_of so_far ≡ [])) ⊎ IsAmid g places old so_far now

-- the same by either of two: with the diversions as it began, or as its files were checked
abbrev pub IsAmidEither : Given → Given → List Path → World → List Event → World → Type 0
IsAmidEither first late places old so_far now = IsAmidUnit first places old so_far now ⊎ IsAmidUnit late places old so_far now

-- the rows of a plan up to that of the files, and the others
pub record ArePartedRows (plan : Planned) (before files : List Row) : Type 0 where
  pub all : before ++ files ≡ plan.rows
  pub none : has_files (take (length before) plan.kinds) ≡ false
  pub next : has_files (take (length before + 1) plan.kinds) ≡ has_files plan.kinds

-- a table with the ways of another
abbrev pub with_ways_of : Diverted → Diverted → Diverted
with_ways_of read held = record held { ways = read.ways }

-- the table of diversions as it stands in a world; one that can't be read leaves that of before
pub data IsTableIn (w : World) (first late : Ways) : Type 0 where
  read : HasDiversions w late.entries → IsTableIn w first late
  damaged : (line : ℕ) → IsDamageAt (w diversions_path) line → late.entries ≡ first.entries → IsTableIn w first late

-- Behind all script calls before the files the table was read again, and the links above the paths in hand were looked at again.
pub record IsReadAgain (lists : List PackageList) (plan : Planned) (first late : Ways) (old new : State) : Type 0 where
  pub before : List Row
  pub files : List Row
  pub parted : ArePartedRows plan before files
  pub m : State
  pub since : IsLater old m
  pub until : IsLater m new
  pub ran : List Ran
  pub calls_are : calls m ≡ calls old ++ ran
  pub all : Succeed Anyhow [] before ran
  pub table : IsTrue m.honest → IsTableIn m.world first late
  pub aliases : IsTrue m.honest → AreFollowedAgain lists (paths_in_hand first.aliases plan.union late.entries) first late m.world

-- what is given, with the diversions as the unit began
abbrev pub as_begun : Given → Given
as_begun g = record g { ways = g.begun }

-- that of a plan as the unit began
abbrev pub HasReadAgain : Given → State → State → Type 0
HasReadAgain g old new = (plan : Planned) × IsPlanFor (as_begun g) old.world new.honest plan × IsReadAgain g.lists plan g.begun g.ways old new

-- The diversions by which the files of a unit go: those as it began, as long as not all scripts before its files have succeeded; else those
-- as they are behind these scripts, where the new preinst is one.
pub record GoesByTable (g : Given) (u : Option Unwinding) (old new : State) : Type 0 where
  pub either : (g.ways ≡ g.begun) ⊎ HasReadAgain g old new
  pub again : u ≡ None → is_some g.«package».scripts.preinst ≡ true → HasReadAgain g old new

-- The calls of these rows, whatever the answer: none; or the first of some that are legal for them, and they are told.
pub data HasCalledRows (rows : List Row) (old new : State) (told now : List Called) : Type 0 where
  nothing : Silent old new → now ≡ told → HasCalledRows rows old new told now
  some : Begun (MayRun rows) old new told now → HasCalledRows rows old new told now

-- The calls of a unit, whatever its answer: none, as long as nothing is planned, or those of the plan's rows.
pub data HasCalled (g : Given) (old new : State) (told now : List Called) : Type 0 where
  unplanned : Silent old new → now ≡ told → HasCalled g old new told now
  planned : (plan : Planned) → IsPlanFor g old.world new.honest plan → HasCalledRows plan.rows old new told now → HasCalled g old new told now

-- the failure that is told is that of a row of the plan
pub record HasFailedFor (g : Given) (old new : State) (u : Option Unwinding) : Type 0 where
  pub plan : Planned
  pub plan_for : IsPlanFor g old.world new.honest plan
  pub cause : IsCauseOf plan.rows u

-- the packages of a unit, in the order of names: the one that was named, and each whose record differs since
pub record IsTouched (name : List ℕ) (before after : List Record) (touched : List (List ℕ)) : Type 0 where
  pub order : AreIncreasing touched
  pub exact : (q : List ℕ) → Contains touched q ↔ ((q ≡ name) ⊎ (record_in after q ≡ record_in before q → ⊥))
  pub others : (q : List ℕ) → (Contains touched q → ⊥) → record_in after q ≡ record_in before q
