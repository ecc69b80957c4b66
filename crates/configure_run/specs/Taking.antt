-- The turns of a configure, while they are taken.
use Rattle.std.specs.Prelude.{◌≡◌, ◌⊎◌, ◌+◌, ℕ, Bool, true, false, IsTrue, List, [], ◌∷◌, Option, Some, None, IfSome}
use Rattle.std.specs.List.{sum_by}
use Rattle.conffiles.specs.declared.decisions.ConfPolicy.{ConfPolicy}
use Rattle.diversions.specs.Diverted.{Diverted}
use Rattle.dependency_check.specs.Waiting.{Waiting, IsConfigurableNow}
use Rattle.dependency_sets.specs.Sets.{has}
use Rattle.held_administration.specs.declared.held.Administration.{Administration}
use Rattle.host_core.specs.Events.{Event}
use Rattle.host_core.specs.Host.{State, AtEachMomentOf}
use Rattle.host_core.specs.Loss.{IsAnswered}
use Rattle.host_core.specs.World.{World}
use Rattle.relation_index.specs.declared.package.Package.{Package}
use Rattle.unit_reports.specs.Held.{Held}
use Rattle.unit_reports.specs.Units.{HasNoCalls, IsBroken, TellsNoPackage}
use Rattle.unit_reports.specs.declared.report.Unit.{Unit as AUnit}
use Rattle.unit_runs.specs.Turns.{IsStill}
use Rattle.configure_run.specs.LeftOver.{IsNumbered}
use Rattle.configure_run.specs.Starting.{AreWaiting}
use Rattle.configure_run.specs.Turns.{HasCalledFor, IsAmidUnit, IsUnit, after_turn}
use Rattle.configure_run.specs.Whose.{IsNobodysTurn}
use Rattle.configure_run.specs.declared.options.ConfigureOptions.{ConfigureOptions}
use Rattle.configure_run.specs.declared.turn.Configuring.{Configuring}

-- the unit of the package of this number
pub record IsTurnOf (policy : ConfPolicy) (q : Waiting) (x : ℕ) (before after : Held) (s t : State) (u : AUnit) : Type 0 where
  pub p : Package
  pub numbered : IsNumbered q.packages x p
  pub is : IsUnit policy q.packages p before after u s t
  pub moments : AtEachMomentOf (IsAmidUnit policy p.name before) s t
  pub answered : IsAnswered s t

-- the unit of the package of this number was broken off
pub record IsBrokenAt (policy : ConfPolicy) (q : Waiting) (x : ℕ) (before : Held) (s t : State) (u : AUnit) : Type 0 where
  pub broken : IsBroken u.reply
  pub untouched : TellsNoPackage u
  pub called : HasNoCalls u s t ⊎ ((p : Package) × IsNumbered q.packages x p × HasCalledFor policy p.name before u s t)

-- at each moment of its turn
abbrev pub IsAmidTurnOf : ConfPolicy → Waiting → ℕ → Held → World → List Event → World → Type 0
IsAmidTurnOf policy q x before old so_far now = IsStill old so_far now ⊎ ((p : Package) × IsNumbered q.packages x p × IsAmidUnit policy p.name before old so_far now)

-- no turn is left, and none was taken
pub record IsNoneLeft (options : ConfigureOptions) (silent : List Bool) (taken : Option (ℕ × Bool)) (q : Waiting) : Type 0 where
  pub untaken : taken ≡ None
  pub next : IsNobodysTurn options.ignore_depends (has silent) q
  pub none_left : (x : ℕ) → IsConfigurableNow q x → ⊥

-- what stays the same over the turns
pub record Task : Type 0 where
  pub options : ConfigureOptions
  pub silent : List Bool
  pub diverted : Diverted

abbrev pub task_of : Configuring → Task
task_of c = record { options = c.options; silent = c.silent.items; diverted = c.diversions.now }

-- what waits behind the turn that was taken last
abbrev pub left_behind : Waiting → Option (ℕ × Bool) → Waiting
left_behind q None = q
left_behind q (Some n) = after_turn n.1 n.0 q

abbrev pub left_in : Option Waiting → Option (ℕ × Bool) → Waiting
left_in None taken = record { packages = []; installed = []; waiting = [] }
left_in (Some q) taken = left_behind q taken

-- what waits; nothing where memory was wanting for the queue
abbrev pub left_of : Configuring → Waiting
left_of c = left_in c.queue c.taken

abbrev pub weight : Bool → ℕ
weight true = 1
weight false = 0

-- how many wait
abbrev pub count : Waiting → ℕ
count q = sum_by weight q.waiting

-- between turns the queue is there, and what waits is recorded so
pub record IsBetween (c : Configuring) (a : Administration) : Type 0 where
  pub queue : Waiting
  pub here : c.queue ≡ Some queue
  pub waits : IfSome c.taken (λ n. IsTrue (has queue.waiting n.0))
  pub wait : AreWaiting (left_behind queue c.taken) a.database.records

-- this is the queue, of which no turn is left
pub record IsOver (c : Configuring) (q : Waiting) : Type 0 where
  pub here : c.queue ≡ Some q
  pub none : IsNoneLeft c.options c.silent.items c.taken q
