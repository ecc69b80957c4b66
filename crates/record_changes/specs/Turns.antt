-- Changes, one after another.
use Rattle.std.specs.Prelude.{◌≡◌, List, ◌∷◌}
use Rattle.host_core.specs.Events.{Event}
use Rattle.host_core.specs.Host.{State, AtEachMomentOf}
use Rattle.host_core.specs.Loss.{IsAnswered}
use Rattle.host_core.specs.World.{World}
use Rattle.unit_reports.specs.Held.{Held}
use Rattle.unit_reports.specs.Units.{HasNoCalls}
use Rattle.unit_reports.specs.declared.report.Unit.{Unit as AUnit}
use Rattle.record_changes.specs.Units.{IsAmidChange, IsChange}
use Rattle.record_changes.specs.declared.change.RecordChange.{RecordChange}

-- The first of the changes that are left, which then waits no longer. At each moment it is under way, and in the end all of it is
-- on the disk.
pub record IsTurn (left : List RecordChange) (before : Held) (u : AUnit) (later : List RecordChange) (after : Held) (s t : State) : Type 0 where
  pub asked : RecordChange
  pub first : left ≡ asked ∷ later
  pub is : IsChange asked before after u s t
  pub moments : AtEachMomentOf (IsAmidChange asked before) s t
  pub answered : IsAnswered s t

-- the first of them is under way
abbrev pub IsAmidTurn : List RecordChange → List RecordChange → Held → World → List Event → World → Type 0
IsAmidTurn left later before old so_far now = (asked : RecordChange) × (others : List RecordChange) × (left ≡ asked ∷ others) × IsAmidChange asked before old so_far now

-- a change that was broken off made no call
abbrev pub HasCalledNext : List RecordChange → List RecordChange → Held → State → State → AUnit → Type 0
HasCalledNext left later before s t u = HasNoCalls u s t
