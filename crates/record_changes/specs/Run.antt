-- All changes of a command.
use Rattle.std.specs.Prelude.{List, [], Option, IfSome}
use Rattle.host_core.specs.Events.{Event}
use Rattle.host_core.specs.Host.{State, AtEachMomentOf}
use Rattle.host_core.specs.World.{World}
use Rattle.unit_reports.specs.Held.{Held}
use Rattle.unit_reports.specs.declared.report.Unit.{Unit as AUnit}
use Rattle.unit_runs.specs.Turns as runs
use Rattle.unit_runs.specs.Turns.{IsBrokenNext, TurnsTo}
use Rattle.record_changes.specs.Turns.{HasCalledNext, IsAmidTurn, IsTurn}
use Rattle.record_changes.specs.declared.change.RecordChange.{RecordChange}

-- change after change; in the end none is left
abbrev pub IsChangeRun : List RecordChange → List AUnit → Held → Held → State → State → Type 0
IsChangeRun changes us before after s t = TurnsTo IsTurn changes before s us [] after t

-- Some were recorded, up to a moment of the host. Since then only the next one was under way, which was broken off: so what those
-- before it recorded stands.
pub record HasRun (changes : List RecordChange) (us : List AUnit) (last : Option AUnit) (before : Held) (s t : State) : Type 0 where
  pub left : List RecordChange
  pub after : Held
  pub end : State
  pub turns : TurnsTo IsTurn changes before s us left after end
  pub since : AtEachMomentOf (runs.IsAmidNext IsAmidTurn left left after) end t
  pub broken : IfSome last (IsBrokenNext HasCalledNext left left after end t)

-- at each moment: some are recorded, on a host that was honest so far, and the next is under way
abbrev pub IsAmidRun : List RecordChange → Held → State → List Event → World → Type 0
IsAmidRun changes before s so_far now = runs.IsAmidTurns IsTurn IsAmidTurn (λ later. Unit {0}) changes before s so_far now
