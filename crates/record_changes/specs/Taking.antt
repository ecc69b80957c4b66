-- The changes of a command, while they are recorded.
use Rattle.std.specs.Prelude.{◌≡◌, List, [], Option, Some, None, IfSome, drop}
use Rattle.diversions.specs.Diverted.{Diverted}
use Rattle.diversions.specs.Ways.{Ways}
use Rattle.held_administration.specs.Open.{IsOpen}
use Rattle.held_administration.specs.Order.{IsInOrder}
use Rattle.held_administration.specs.declared.held.Administration.{Administration}
use Rattle.host_core.specs.Host.{State, Needs}
use Rattle.host_core.specs.Loss.{IsAnswered}
use Rattle.recorded_packages.specs.Packages.{ArePackagesOf}
use Rattle.relation_index.specs.declared.package.Package.{Package}
use Rattle.status_records.specs.declared.record.Record.{Record}
use Rattle.unit_reports.specs.Held.{Held, held_by}
use Rattle.unit_reports.specs.declared.report.Unit.{Unit as AUnit}
use Rattle.record_changes.specs.Activated.{IsMade, changed}
use Rattle.record_changes.specs.Units.{IsChange, entry_of}
use Rattle.record_changes.specs.declared.change.Change.{Change}
use Rattle.record_changes.specs.declared.change.Change.TheVariants as change
use Rattle.record_changes.specs.declared.change.RecordChange.{RecordChange}
use Rattle.record_changes.specs.declared.turns.Changing.{Changing}
use Rattle.record_changes.specs.declared.units.Decided.{Decided}
use Rattle.record_changes.specs.declared.units.Decided.TheVariants.{Changed, Made, Refused}

-- what is to be done of a change: a record that has to be noted is that of before, changed
abbrev pub HasDecided : RecordChange → List Record → Decided → Type 0
HasDecided asked records Refused = entry_of asked records ≡ None
HasDecided asked records Made = (r : Record) × (entry_of asked records ≡ Some r) × IsMade asked.change r
HasDecided asked records (Changed entry) = (r : Record) × (entry_of asked records ≡ Some r) × (IsMade asked.change r → ⊥) × (entry ≡ changed asked.change r)

-- The packages that are held behind a change that was recorded: none where one was abandoned, since its state is another one, nor where
-- one awaits other triggers, since it may be configured by that.
abbrev pub packages_behind : Change → Option (List Package) → Option (List Package)
packages_behind (change.Want want) held = held
packages_behind (change.Activate names) held = held
packages_behind (change.Abandon trigger) held = None
packages_behind (change.Await names) held = None

-- the packages that are held are those of the records
abbrev pub IsIndexed : Administration → Type 0
IsIndexed a = IfSome a.packages (ArePackagesOf a.database.records)

-- The unit of a change on an administration, whatever the diversions: it stays in order, open and indexed, and all of it is on the
-- disk.
pub record MakesChange (asked : RecordChange) (old new : Administration) (u : AUnit) (s t : State) : Type 0 where
  pub is : (diverted : Diverted) → IsChange asked (held_by old diverted) (held_by new diverted) u s t
  pub opened : (ways : Ways) → IsOpen ways old → IsOpen ways new
  pub order : Needs t (IsInOrder new.database new.lists.lists)
  pub indexed : IsIndexed old → IsIndexed new
  pub answered : IsAnswered s t

-- those that are left
abbrev pub left_of : Changing → List RecordChange
left_of r = drop r.next r.changes.items

abbrev pub IsBetween : Changing → Administration → Type 0
IsBetween r a = IsIndexed a

-- none is left
abbrev pub IsOver : Changing → List RecordChange → Held → Type 0
IsOver r left held = left ≡ []
