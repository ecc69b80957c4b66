-- A unit whose table of diversions is read again before its files: the plans by both tables.
use Rattle.std.specs.Prelude.{◌≡◌, ◌⊎◌, Bool, Err, IfSome, IsTrue, List, Ok, Option, Result, false}
use Rattle.std.specs.List.{AllByRecursion}
use Rattle.std.specs.Str.{IsUtf8}
use Rattle.administration.specs.declared.fault.AdministrationFault.{AdministrationFault}
use Rattle.administration.specs.declared.fault.AdministrationFault.TheVariants.{Damaged}
use Rattle.administration.specs.declared.fault.AdministrationFault.TheVariants as administration
use Rattle.host_core.specs.declared.fault.HostFault.{HostFault}
use Rattle.host_core.specs.declared.fault.HostFault.TheVariants as host
use Rattle.host_core.specs.Events.{Event}
use Rattle.host_core.specs.Host.{Silent, State}
use Rattle.host_core.specs.Loss.{IsLater}
use Rattle.host_core.specs.Paths.{Path}
use Rattle.host_core.specs.World.{World}
use Rattle.control_members.specs.LaidOut.{IsLaying}
use Rattle.diversions.specs.Ways.{Ways}
use Rattle.file_lists.specs.declared.paths.PackageList.{PackageList}
use Rattle.held_administration.specs.declared.held.Administration.{Administration}
use Rattle.package_files.specs.declared.work.Work.{Work}
use Rattle.package_tree.specs.declared.package.Package.{Package}
use Rattle.status_db.specs.Recorded.{Recorded}
use Rattle.status_records.specs.declared.record.Record.{Record}
use Rattle.undo_rows.specs.Transcripts.{Ended}
use Rattle.undo_rows.specs.declared.rows.Called.{Called}
use Rattle.undo_rows.specs.declared.rows.Row.{Row}
use Rattle.unpack_plan.specs.Planned.{IsPlanned, Job, Planned, planned_from}
use Rattle.unpack_plan.specs.declared.plan.PlannedCommit.{PlannedCommit}
use Rattle.unpack_steps.specs.At.{Stops}
use Rattle.unpack_steps.specs.Task.{Task, task_by}
use Rattle.unpack_steps.specs.declared.plan.Rows.{Rows}
use Rattle.unpack_engine.specs.Followed.{AreFollowedAgain, paths_in_hand}
use Rattle.unpack_engine.specs.Others.{AreOthers}
use Rattle.unpack_engine.specs.Units.{Ground, HasBegun, HasCarriedOut, IsRunning, IsTableIn, IsUnderWay}

-- what was planned by these lists and this table; of this tree, if it may be planned again
pub record IsJobOf (j : Job) (plan : Planned) (lists : List PackageList) (ways : Ways) (spare : Option Package) : Type 0 where
  pub planned : IsPlanned j plan
  pub lists_are : j.lists ≡ lists
  pub ways_are : j.ways ≡ ways
  pub tree : IfSome spare (λ tree. j.«package» ≡ tree)

-- of something that was planned so
pub record IsPlanOf (lists : List PackageList) (ways : Ways) (spare : Option Package) (plan : Planned) : Type 0 where
  pub job : Job
  pub is : IsJobOf job plan lists ways spare

-- and by these records, with packages that have rows beside it
pub record IsPlanWith (records : List Record) (lists : List PackageList) (ways : Ways) (spare : Option Package) (plan : Planned) : Type 0 where
  pub of : IsPlanOf lists ways spare plan
  pub records_are : of.job.records ≡ records
  pub others : AreOthers of.job.«package».name records of.job.others

-- the table was read again here, and the links were looked at again, where nothing was called since
pub record IsReadHere (lists : List PackageList) (union : List Path) (first late : Ways) (old new : State) : Type 0 where
  pub m : State
  pub since : IsLater old m
  pub until : IsLater m new
  pub silent : Silent old m
  pub table : IsTrue m.honest → IsTableIn m.world first late
  pub aliases : IsTrue m.honest → AreFollowedAgain lists (paths_in_hand first.aliases union late.entries) first late m.world

-- a plan for this, with these rows, was carried out
pub record HasCarriedOutPlan (j : Job) (g : Ground) (rows : List Row) (ended : Ended) (after : Recorded) (lists : List PackageList) (old new : State) (told now : List Called) : Type 0 where
  pub plan : Planned
  pub planned : IsPlanned j plan
  pub rows_are : plan.rows ≡ rows
  pub texts : AllByRecursion IsUtf8 plan.new_list
  pub carried_out : HasCarriedOut g plan ended after lists old new told now

-- the ground with another table
abbrev pub ground_with : Ground → Ways → Ground
ground_with g ways = record g { ways = ways }

-- at each moment: by the plan of before, or by one with the other table
abbrev pub IsUnderWayByEither : Job → Planned → Ways → Ground → World → List Event → World → Type 0
IsUnderWayByEither j plan late g old so_far now = IsUnderWay g plan old so_far now
    ⊎ ((other : Planned) × IsPlanned (record j { ways = late }) other × IsUnderWay (ground_with g late) other old so_far now)

-- another plan of the same rows and control files, by another table: what it ships
pub record IsOther (j : Job) (rows : Rows) (calls : List Row) (commit : PlannedCommit) (late : Ways) (other : List Work) : Type 0 where
  pub behind : PlannedCommit
  pub planned : IsPlanned (record j { ways = late }) (planned_from rows other calls behind)
  pub members : behind.members ≡ commit.members

-- at each stop: by what was planned to be shipped, or by what another plan ships
abbrev pub StopsByEither : Job → Rows → List Row → PlannedCommit → (Ways → List Work → Task) → List Work → (first late : Ways) → List Event → World → Type 0
StopsByEither j rows calls commit task works first late es now = Stops (task first works) es now
    ⊎ ((other : List Work) × IsOther j rows calls commit late other × Stops (task late other) es now)

-- at each moment of the rows
abbrev pub IsRunningByEither : Job → Administration → Rows → List Row → List Work → (first late : Ways) → PlannedCommit → World → List Event → World → Type 0
IsRunningByEither j held rows calls works first late commit old so_far now = IsRunning (HasBegun commit.members) IsLaying (λ s. task_by s held first works rows) old so_far now
    ⊎ ((other : List Work) × IsOther j rows calls commit late other × IsRunning (HasBegun commit.members) IsLaying (λ s. task_by s held late other rows) old so_far now)

-- what a fault of reading the table is to a unit that is under way: where it can't be read, that which was held stays
abbrev pub fault_in : AdministrationFault → Result Bool HostFault
fault_in (Damaged file line) = Ok false
fault_in administration.Device = Err host.Device
fault_in administration.NoMemory = Err host.NoMemory
fault_in administration.Declined = Err host.Declined
