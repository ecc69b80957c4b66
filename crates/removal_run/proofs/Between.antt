-- Between removals, and what one of them leaves.
use Rattle.std.proofs.Common.{◌≡◌, ◌<◌, ℕ, List, [], Option, Some, None, Result, Ok, Err, ap, sym, subst, ◌∙◌}
use Rattle.std.specs.Prelude.{OnOk}
use Rattle.dependency_check.specs.Waiting.{Waiting}
use Rattle.held_administration.specs.declared.held.Administration.{Administration}
use Rattle.host_core.specs.Host.{State, AtEachMomentOf}
use Rattle.relation_index.specs.declared.package.Package.{Package}
use Rattle.unit_reports.specs.Held.{Held}
use Rattle.unit_reports.specs.declared.report.Unit.{Unit as AUnit}
use Rattle.unit_runs.specs.Taking.{IsTaken}
use Rattle.unit_runs.specs.Turns as runs
use Rattle.unit_runs.proofs.Taken.{taken_so}
use Rattle.removal_run.specs.Next.{IsNothing}
use Rattle.removal_run.specs.Taking.{IsBetween, IsOver, IsQueueTo, packages_in}
use Rattle.removal_run.specs.Turns.{AreAccepted, HasCalledNext, IsAmidTurn, IsTurn}
use Rattle.removal_run.specs.declared.turns.Removing.{Removing}
use Rattle.removal_run.specs.declared.options.RemovalOptions.{RemovalOptions}

abbrev or_queue : Waiting → Option Waiting → Waiting
or_queue q None = q
or_queue q (Some other) = other

-- the queue of a moment between removals
pub ready_of : (r : Removing) (a : Administration) (q : Waiting) → r.queue ≡ Some q → IsBetween r a → IsQueueTo q.packages a.database.records r.waiting.items q r.removed
ready_of r a q here between =
    subst (λ (w : Waiting). IsQueueTo w.packages a.database.records r.waiting.items w r.removed) (ap (or_queue q) (sym between.here ∙ here)) between.is

pub on_ok : {T E P Q R : Type 0} (r : Result T E) → (P → Q → R) → OnOk r P → OnOk r Q → OnOk r R
on_ok (Ok x) both p q = both p q
on_ok (Err e) both p q = tt

-- what a turn does, seen from the packages that were given
pub taken_of : (options : RemovalOptions) (packages : List Package) (q : Waiting) (r : Removing) (left later : List (List ℕ)) (before after : Held) (s t : State) (result : Result (Option AUnit) AUnit) → q.packages ≡ packages → r.options ≡ options → r.queue ≡ Some q
    → IsTaken (IsTurn options q.packages) (λ l behind. HasCalledNext options q.packages l) (λ l held. (r.waiting.items ≡ l) × IsNothing options.ignore_depends q.packages held.records.records l q) left later before after s t result
    → IsTaken (IsTurn options packages) (λ l behind. HasCalledNext options packages l) (IsOver r) left later before after s t result
taken_of options packages q r left later before after s t result same given here is =
    subst (λ (ps : List Package). IsTaken (IsTurn options ps) (λ l behind. HasCalledNext options ps l) (IsOver r) left later before after s t result) same
    (taken_so (IsTurn options q.packages) (λ l behind. HasCalledNext options q.packages l) (λ l held. (r.waiting.items ≡ l) × IsNothing options.ignore_depends q.packages held.records.records l q) (IsOver r) left later before after s t result
    (λ over. record { queue = q; here = here; same = over.0; nothing = subst (λ (o : RemovalOptions). IsNothing o.ignore_depends q.packages after.records.records left q) (sym given) over.1 }) is)

pub moments_of : (options : RemovalOptions) (packages : List Package) (q : Waiting) (left later : List (List ℕ)) (before : Held) (s t : State) → q.packages ≡ packages
    → AtEachMomentOf (runs.IsAmidNext (λ l behind. IsAmidTurn options q.packages l) left later before) s t → AtEachMomentOf (runs.IsAmidNext (λ l behind. IsAmidTurn options packages l) left later before) s t
moments_of options packages q left later before s t same since =
    subst (λ (ps : List Package). AtEachMomentOf (runs.IsAmidNext (λ l behind. IsAmidTurn options ps l) left later before) s t) same since
