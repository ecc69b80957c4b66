-- Between turns, and what one turn leaves.
use Rattle.std.proofs.Common.{◌≡◌, ◌<◌, ℕ, Bool, List, [], Option, Some, None, Result, Ok, Err, ap, sym, subst, ◌∙◌}
use Rattle.std.specs.Prelude.{IfOk, IfSome, IsTrue, OnOk}
use Rattle.dependency_check.specs.Waiting.{Waiting}
use Rattle.dependency_sets.specs.Sets.{has}
use Rattle.held_administration.specs.declared.held.Administration.{Administration}
use Rattle.host_core.specs.Host.{State, AtEachMomentOf}
use Rattle.unit_reports.specs.Held.{Held}
use Rattle.unit_reports.specs.declared.report.Unit.{Unit as AUnit}
use Rattle.unit_runs.specs.Taking.{IsTaken}
use Rattle.unit_runs.specs.Turns as runs
use Rattle.unit_runs.proofs.Taken.{taken_so}
use Rattle.configure_run.specs.declared.options.ConfigureOptions.{ConfigureOptions}
use Rattle.configure_run.specs.Starting.{AreWaiting}
use Rattle.configure_run.specs.Taking.{IsBetween, IsNoneLeft, IsOver, count, left_behind, left_in, left_of}
use Rattle.configure_run.specs.Turns.{HasCalledNext, IsAmidTurn, IsTurn}
use Rattle.configure_run.specs.declared.turn.Configuring.{Configuring}
use Rattle.configure_run.proofs.Progress.{fewer_wait}

abbrev or_queue : Waiting → Option Waiting → Waiting
or_queue q None = q
or_queue q (Some other) = other

-- the queue of a moment between turns
pub record IsReady (c : Configuring) (a : Administration) (q : Waiting) : Type 0 where
  pub waits : IfSome c.taken (λ n. IsTrue (has q.waiting n.0))
  pub wait : AreWaiting (left_behind q c.taken) a.database.records
  pub left : left_of c ≡ left_behind q c.taken

pub ready_of : (c : Configuring) (a : Administration) (q : Waiting) → c.queue ≡ Some q → IsBetween c a → IsReady c a q
ready_of c a q here between =
    let one : between.queue ≡ q = ap (or_queue q) (sym between.here ∙ here) in
    record {
      waits = subst (λ (w : Waiting). IfSome c.taken (λ n. IsTrue (has w.waiting n.0))) one between.waits;
      wait = subst (λ (w : Waiting). AreWaiting (left_behind w c.taken) a.database.records) one between.wait;
      left = ap (λ (o : Option Waiting). left_in o c.taken) here;
    }

pub on_ok : {T E P Q R : Type 0} (r : Result T E) → (P → Q → R) → OnOk r P → OnOk r Q → OnOk r R
on_ok (Ok x) both p q = both p q
on_ok (Err e) both p q = tt

-- a turn leaves fewer
pub fewer_of : (q left : Waiting) (taken : Option (ℕ × Bool)) (result : Result (Option AUnit) AUnit) → left ≡ q → IfOk result (λ found. IfSome found (λ unit. (n : ℕ × Bool) × (taken ≡ Some n) × IsTrue (has q.waiting n.0)))
    → IfOk result (λ found. IfSome found (λ unit. count (left_behind q taken) < count left))
fewer_of q left taken (Ok (Some u)) same (n, is, can) =
    subst (λ (w : Waiting). count (left_behind q taken) < count w) (sym same) (subst (λ (o : Option (ℕ × Bool)). count (left_behind q o) < count q) (sym is) (fewer_wait n.1 n.0 q can))
fewer_of q left taken (Ok None) same found = tt
fewer_of q left taken (Err u) same found = tt

-- what a turn does, seen from what waited before it
pub taken_of : (options : ConfigureOptions) (silent now : List Bool) (q left later : Waiting) (taken : Option (ℕ × Bool)) (c : Configuring) (before after : Held) (s t : State) (result : Result (Option AUnit) AUnit) → left ≡ q → now ≡ silent → c.queue ≡ Some q → c.taken ≡ taken → c.silent.items ≡ silent → c.options ≡ options
    → IsTaken (IsTurn options (has now)) (λ l behind. HasCalledNext options (has now) l) (λ l held. IsNoneLeft options now taken l) q later before after s t result
    → IsTaken (IsTurn options (has silent)) (λ l behind. HasCalledNext options (has silent) l) (λ l held. IsOver c l) left later before after s t result
taken_of options silent now q left later taken c before after s t result same marks here turn own given is =
    subst (λ (w : Waiting). IsTaken (IsTurn options (has silent)) (λ l behind. HasCalledNext options (has silent) l) (λ l held. IsOver c l) w later before after s t result) (sym same)
    (taken_so (IsTurn options (has silent)) (λ l behind. HasCalledNext options (has silent) l) (λ l held. IsNoneLeft options silent taken l) (λ l held. IsOver c l) q later before after s t result
    (λ nothing. record { here = here; none = subst (λ (p : ConfigureOptions). IsNoneLeft p c.silent.items c.taken q) (sym given) (subst (λ (l : List Bool). IsNoneLeft options l c.taken q) (sym own) (subst (λ (o : Option (ℕ × Bool)). IsNoneLeft options silent o q) (sym turn) nothing)) })
    (subst (λ (l : List Bool). IsTaken (IsTurn options (has l)) (λ x behind. HasCalledNext options (has l) x) (λ x held. IsNoneLeft options l taken x) q later before after s t result) marks is))

-- the moments of a turn, seen so
pub moments_of : (options : ConfigureOptions) (silent now : List Bool) (q left later : Waiting) (before : Held) (s t : State) → left ≡ q → now ≡ silent → AtEachMomentOf (runs.IsAmidNext (λ l behind. IsAmidTurn options (has now) l) q q before) s t
    → AtEachMomentOf (runs.IsAmidNext (λ l behind. IsAmidTurn options (has silent) l) left later before) s t
moments_of options silent now q left later before s t same marks since =
    subst (λ (w : Waiting). AtEachMomentOf (runs.IsAmidNext (λ l behind. IsAmidTurn options (has silent) l) w later before) s t) (sym same)
    (subst (λ (l : List Bool). AtEachMomentOf (runs.IsAmidNext (λ x behind. IsAmidTurn options (has l) x) q q before) s t) marks since)
