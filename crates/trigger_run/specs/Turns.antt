-- The units of some names, one after another, in the order of the names.
use Rattle.std.specs.Prelude.{◌≡◌, ◌⊎◌, ℕ, List, [], ◌∷◌}
use Rattle.host_core.specs.Events.{Event}
use Rattle.host_core.specs.Host.{State}
use Rattle.host_core.specs.World.{World}
use Rattle.unit_reports.specs.Held.{Held}
use Rattle.unit_reports.specs.Units.{HasNoCalls}
use Rattle.unit_reports.specs.declared.report.Unit.{Unit as AUnit}
use Rattle.unit_runs.specs.Turns as runs
use Rattle.unit_runs.specs.Turns.{HaveTurned, IsBrokenNext as IsBroken, TurnsTo}
use Rattle.trigger_run.specs.Needs.{IsReady}
use Rattle.trigger_run.specs.Units.{HasCalledProcessing, IsAmidProcessing, IsUnitOf}

-- The unit of the first of the names that are left, by what the one before it left.
pub record IsTurn (names : List (List ℕ)) (before : Held) (u : AUnit) (left : List (List ℕ)) (after : Held) (s t : State) : Type 0 where
  pub name : List ℕ
  pub first : names ≡ name ∷ left
  pub is : IsUnitOf name before after u s t

-- unit after unit; in the end these names are left
abbrev pub ProcessesTo : List (List ℕ) → Held → State → List AUnit → List (List ℕ) → Held → State → Type 0
ProcessesTo names before s us left after t = TurnsTo IsTurn names before s us left after t

-- the package of this name is the next, and its triggers are to be processed
pub record IsNextReady (names : List (List ℕ)) (before : Held) (name : List ℕ) : Type 0 where
  pub left : List (List ℕ)
  pub first : names ≡ name ∷ left
  pub ready : IsReady before.records.records name

-- the triggers of the next package are being processed
abbrev pub IsAmidTurn : List (List ℕ) → Held → World → List Event → World → Type 0
IsAmidTurn names before old so_far now = (name : List ℕ) × IsNextReady names before name × IsAmidProcessing name before old so_far now

-- at each moment behind the units that are done: nothing more is done, or the next is under way
abbrev pub IsAmidNext : List (List ℕ) → Held → World → List Event → World → Type 0
IsAmidNext names before old so_far now = runs.IsAmidNext (λ left later. IsAmidTurn left) names names before old so_far now

-- some units are done on a host that was honest so far, and the next is under way
abbrev pub IsAmidTurns : List (List ℕ) → Held → State → List Event → World → Type 0
IsAmidTurns names before s so_far now = runs.IsAmidTurns IsTurn (λ left later. IsAmidTurn left) (λ later. Unit {0}) names before s so_far now

-- the calls of a unit that was broken off: none, or the first of those of the next package
abbrev pub HasCalledNext : List (List ℕ) → Held → State → State → AUnit → Type 0
HasCalledNext names before s t u = HasNoCalls u s t ⊎ ((name : List ℕ) × IsNextReady names before name × HasCalledProcessing name before s t [] u.calls.items)

-- a unit that was broken off: it tells no package, and made no call or the first of those of the next package
abbrev pub IsBrokenNext : List (List ℕ) → Held → State → State → AUnit → Type 0
IsBrokenNext names before s t u = IsBroken (λ left later. HasCalledNext left) names names before s t u

-- their units, behind others
abbrev pub HasTurned : List (List ℕ) → List (List ℕ) → Held → Held → State → State → List AUnit → List AUnit → Type 0
HasTurned names left before after s t old new = HaveTurned IsTurn names before s old new left after t

-- the same up to a moment of the host; since that moment only the next unit was under way, which was broken off
abbrev pub HasStopped : List (List ℕ) → Held → State → State → List AUnit → List AUnit → AUnit → Type 0
HasStopped names before s t old new u = (later : List (List ℕ)) × runs.HasStopped IsTurn (λ left later. IsAmidTurn left) (λ left later. HasCalledNext left) names before s old new later t u
