-- The triggers of packages processed, as a whole.
use Rattle.std.specs.Prelude.{◌≡◌, ℕ, List, [], Option, IfSome}
use Rattle.host_core.specs.Events.{Event}
use Rattle.host_core.specs.Host.{State, AtEachMomentOf}
use Rattle.host_core.specs.World.{World}
use Rattle.unit_reports.specs.Held.{Held}
use Rattle.unit_reports.specs.Units.{IsBrokenBy, TellsNoPackage}
use Rattle.unit_reports.specs.declared.report.Breakage.TheVariants.{NoMemory}
use Rattle.unit_reports.specs.declared.report.Unit.{Unit as AUnit}
use Rattle.trigger_run.specs.Names.{once}
use Rattle.trigger_run.specs.Turns.{IsAmidNext, IsAmidTurns, IsBrokenNext, ProcessesTo}

-- The whole command: a unit for each name, in the order of their first mention.
abbrev pub IsTriggerRun : List (List ℕ) → List AUnit → Held → Held → State → State → Type 0
IsTriggerRun names us before after s t = ProcessesTo (once names) before s us [] after t

-- The units of the first of these names up to a moment of the host. Since that moment only the next one was under way: so what the units
-- left stands, also where that one was broken off.
pub record RunsUpTo (names : List (List ℕ)) (us : List AUnit) (last : Option AUnit) (before : Held) (s t : State) : Type 0 where
  pub left : List (List ℕ)
  pub after : Held
  pub end : State
  pub turns : ProcessesTo names before s us left after end
  pub since : AtEachMomentOf (IsAmidNext left after) end t
  pub broken : IfSome last (IsBrokenNext left after end t)

-- the same of the command
abbrev pub HasRun : List (List ℕ) → List AUnit → Option AUnit → Held → State → State → Type 0
HasRun names us last before s t = RunsUpTo (once names) us last before s t

-- at each moment of the command
abbrev pub IsAmidRun : List (List ℕ) → Held → State → List Event → World → Type 0
IsAmidRun names before s so_far now = IsAmidTurns (once names) before s so_far now

-- a unit that was broken off for want of memory before it had done anything
pub record IsIdle (u : AUnit) : Type 0 where
  pub broken : IsBrokenBy NoMemory u.reply
  pub calls : u.calls.items ≡ []
  pub touched : TellsNoPackage u
