-- The removals of a command, one after another (Policy 6.8).
use Rattle.std.specs.Prelude.{◌≡◌, ◌⊎◌, ℕ, List, [], IsTrue, None}
use Rattle.host_core.specs.Events.{Event}
use Rattle.host_core.specs.Host.{State}
use Rattle.host_core.specs.World.{World}
use Rattle.relation_index.specs.declared.package.Package.{Package}
use Rattle.status_records.specs.declared.record.Record.{Record}
use Rattle.unit_reports.specs.Held.{Held}
use Rattle.unit_reports.specs.Units.{HasNoCalls}
use Rattle.unit_reports.specs.declared.report.Unit.{Unit as AUnit}
use Rattle.unit_runs.specs.Turns as runs
use Rattle.unit_runs.specs.Turns.{HaveTurned, IsBrokenNext as IsBroken, TurnsTo}
use Rattle.removal_run.specs.Extents.{purges}
use Rattle.name_sets.specs.Names.{is_among, without}
use Rattle.removal_run.specs.Refusals.{rule_under}
use Rattle.removal_run.specs.Units.{AreOthersKept, HasCalledRemoving, IsAmidRemoval, RunsRemoval}
use Rattle.removal_run.specs.Waiting.{IsRemovedNext}
use Rattle.removal_run.specs.declared.extents.Extents.{Extents}
use Rattle.removal_run.specs.declared.options.RemovalOptions.{RemovalOptions}

-- `packages` are all packages, with what they stated when the command began

-- The removal of the next package, by what the one before it left: it waits no longer, whatever its end.
pub record IsTurn (options : RemovalOptions) (packages : List Package) (waiting : List (List ℕ)) (before : Held) (u : AUnit) (left : List (List ℕ)) (after : Held) (s t : State) : Type 0 where
  pub name : List ℕ
  pub next : IsRemovedNext options.ignore_depends packages before.records.records waiting name
  pub is : RunsRemoval (purges options.extents before.records.records name) name before after u s t
  pub others : AreOthersKept name before.records.records after.records.records
  pub left_is : left ≡ without name waiting

-- removal after removal; in the end these names still wait
abbrev pub RemovesTo : RemovalOptions → List Package → List (List ℕ) → Held → State → List AUnit → List (List ℕ) → Held → State → Type 0
RemovesTo options packages waiting before s us left after t = TurnsTo (IsTurn options packages) waiting before s us left after t

-- the next removal is under way
abbrev pub IsAmidTurn : RemovalOptions → List Package → List (List ℕ) → Held → World → List Event → World → Type 0
IsAmidTurn options packages waiting before old so_far now = (name : List ℕ) × IsRemovedNext options.ignore_depends packages before.records.records waiting name × IsAmidRemoval (purges options.extents before.records.records name) name before old so_far now

-- at each moment after the removals that are done: nothing more is done, or the next is under way
abbrev pub IsAmidNext : RemovalOptions → List Package → List (List ℕ) → Held → World → List Event → World → Type 0
IsAmidNext options packages waiting before old so_far now = runs.IsAmidNext (λ left later. IsAmidTurn options packages left) waiting waiting before old so_far now

-- some removals are done on a host that was honest so far, and the next is under way
abbrev pub IsAmidTurns : RemovalOptions → List Package → List (List ℕ) → Held → State → List Event → World → Type 0
IsAmidTurns options packages waiting before s so_far now = runs.IsAmidTurns (IsTurn options packages) (λ left later. IsAmidTurn options packages left) (λ later. Unit {0}) waiting before s so_far now

-- the calls of a unit that was broken off: none, or the first of those of the next removal
abbrev pub HasCalledNext : RemovalOptions → List Package → List (List ℕ) → Held → State → State → AUnit → Type 0
HasCalledNext options packages waiting before s t u =
    HasNoCalls u s t ⊎ ((name : List ℕ) × IsRemovedNext options.ignore_depends packages before.records.records waiting name × HasCalledRemoving (purges options.extents before.records.records name) name before s t [] u.calls.items)

-- a unit that was broken off: it tells no package, and made no call or the first of those of the next removal
abbrev pub IsBrokenNext : RemovalOptions → List Package → List (List ℕ) → Held → State → State → AUnit → Type 0
IsBrokenNext options packages waiting before s t u = IsBroken (λ left later. HasCalledNext options packages left) waiting waiting before s t u

-- their units, behind others
abbrev pub HasTurned : RemovalOptions → List Package → List (List ℕ) → List (List ℕ) → Held → Held → State → State → List AUnit → List AUnit → Type 0
HasTurned options packages waiting left before after s t old new = HaveTurned (IsTurn options packages) waiting before s old new left after t

-- the same up to a moment of the host; since that moment only the next removal was under way, which was broken off
abbrev pub HasStopped : RemovalOptions → List Package → List (List ℕ) → Held → State → State → List AUnit → List AUnit → AUnit → Type 0
HasStopped options packages waiting before s t old new u = (later : List (List ℕ))
    × runs.HasStopped (IsTurn options packages) (λ left later. IsAmidTurn options packages left) (λ left later. HasCalledNext options packages left) waiting before s old new later t u

-- no rule refuses one of these names
abbrev pub AreAccepted : Extents → List Record → List (List ℕ) → Type 0
AreAccepted extents records names = (name : List ℕ) → IsTrue (is_among names name) → rule_under extents records name ≡ None
