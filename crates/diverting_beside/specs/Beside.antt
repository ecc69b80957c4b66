-- Changes of the diversions beside a command whose script asks for them.
use Rattle.std.specs.Prelude.{◌≡◌, ◌⊎◌, IsNone, List, None}
use Rattle.administration.specs.Places.{diversions_path, home_path, temporary}
use Rattle.administration.specs.declared.fault.AdministrationFault.{AdministrationFault}
use Rattle.administration.specs.declared.fault.AdministrationFault.TheVariants.{Damaged, Device, NoMemory, Declined}
use Rattle.diversions.specs.Turns.{GoesByTurns}
use Rattle.diversions.specs.Ways.{Ways}
use Rattle.dpkg_session.specs.Diversions.{IsOneUnit}
use Rattle.file_lists.specs.declared.paths.PackageList.{PackageList}
use Rattle.host_core.specs.Host.{AtEachMoment, Needs, Reads, Silent, State}
use Rattle.host_core.specs.World.{World, IsDirectory}
use Rattle.inquiries.specs.Read.{FindsAll, HasFollowed, IsAllDamage, Sight}
use Rattle.status_records.specs.declared.record.Record.{Record}
use Rattle.unit_reports.specs.Units.{CountsLast}
use Rattle.unit_reports.specs.declared.report.Report.{Report}
use Rattle.unit_reports.specs.declared.report.Unit.{Unit as AUnit}

-- the records that stand there, with the notes, the lists of their packages, the diversions, and the aliases of the root
abbrev pub IsHeldBeside : List Record → List PackageList → Ways → State → Type 0
IsHeldBeside table lists ways s = (sight : Sight) × Needs s (HasFollowed table lists ways sight)

-- why the table can't be written: there is no administration, or a directory is in the way
abbrev pub IsTableDamage : World → AdministrationFault → Type 0
IsTableDamage w (Damaged file line) =
    (line ≡ 0)
    × (((file ≡ home_path) × (IsDirectory (w home_path) → ⊥)) ⊎ ((file ≡ temporary diversions_path) × IsDirectory (w (temporary diversions_path))))
IsTableDamage w Device = Unit {0}
IsTableDamage w NoMemory = Unit {0}
IsTableDamage w Declined = Unit {0}

-- why nothing is done: something can't be read, or all can, and the table can't be written
abbrev pub IsUnreadBeside : World → AdministrationFault → Type 0
IsUnreadBeside w fault = IsAllDamage w fault ⊎ (FindsAll w None × IsTableDamage w fault)

-- the unit of a change, from records, lists and diversions to the diversions that it leaves
abbrev pub ByUnit : Type 1
ByUnit = List Record → List PackageList → Ways → Ways → AUnit → State → State → Type 0

-- what holds at each moment of it
abbrev pub ByMoment : Type 1
ByMoment = List Record → List PackageList → Ways → World → World → Type 0

-- What stands there was read, and then the change is one unit, unless it was broken off; each world until then is the one of before,
-- and each one since is one of a moment of the change.
pub record IsChangedBeside (By : ByUnit) (Moment : ByMoment) (done : Report) (s end : State) : Type 0 where
  pub table : List Record
  pub lists : List PackageList
  pub ways : Ways
  pub state : State
  pub reads : Reads s state
  pub silent : Silent s state
  pub held : IsHeldBeside table lists ways state
  pub whole : IsNone done.last → (after : Ways) × IsOneUnit (λ u. By table lists ways after u state end) done.units.items
  pub any_moment : AtEachMoment (Moment table lists ways) state end
  pub turns : GoesByTurns state end
  pub counts : CountsLast state end done.last
