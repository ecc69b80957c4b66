-- What all turns have come to.
use Rattle.std.proofs.Common.{◌≡◌, ℕ, Bool, List, Option, Some, None, ap, subst, sym, ◌∙◌}
use Rattle.dependency_check.specs.Waiting.{Waiting, IsConfigurableNow}
use Rattle.dependency_sets.specs.Sets.{has}
use Rattle.host_core.specs.Host.{State, Since}
use Rattle.unit_reports.specs.Held.{Held}
use Rattle.unit_reports.specs.declared.report.Unit.{Unit as AUnit}
use Rattle.unit_runs.specs.Turns as runs
use Rattle.unit_runs.specs.Turns.{HasStopped, HaveAllTurned}
use Rattle.unit_runs.proofs.Going.{since_wider}
use Rattle.configure_run.specs.declared.options.ConfigureOptions.{ConfigureOptions}
use Rattle.configure_run.specs.Taking.{IsOver, task_of}
use Rattle.configure_run.specs.Turns.{HasCalledNext, HaveTurned, IsAmidTurn, IsAmidTurns, IsTurn, StopTurns}
use Rattle.configure_run.specs.Whose.{IsNobodysTurn}
use Rattle.configure_run.specs.declared.turn.Configuring.{Configuring}

abbrev or_queue : Waiting → Option Waiting → Waiting
or_queue q None = q
or_queue q (Some other) = other

-- no turn is left of this queue
pub record AreOver (options : ConfigureOptions) (silent : List Bool) (start : Waiting) (before : Held) (s : State) (first now : List AUnit) (left : Waiting) (after : Held) (t : State) : Type 0 where
  pub turned : HaveTurned options (has silent) start before s first now left after t
  pub next : IsNobodysTurn options.ignore_depends (has silent) left
  pub none_left : (x : ℕ) → IsConfigurableNow left x → ⊥

pub are_over : (options : ConfigureOptions) (silent : List Bool) (start : Waiting) (before : Held) (s : State) (first now : List AUnit) (after : Held) (t : State) (c : Configuring) (left : Waiting) → c.options ≡ options → c.silent.items ≡ silent → c.queue ≡ Some left
    → HaveAllTurned (IsTurn options (has silent)) (λ q held. IsOver c q) start before s first now after t → AreOver options silent start before s first now left after t
are_over options silent start before s first now after t c left given same here all =
    let one : all.q ≡ left = ap (or_queue left) (sym all.ended.here ∙ here) in
    subst (λ (q : Waiting). AreOver options silent start before s first now q after t) one (record {
      turned = all.turned;
      next = subst (λ (l : List Bool). IsNobodysTurn options.ignore_depends (has l) all.q) same (subst (λ (o : ConfigureOptions). IsNobodysTurn o.ignore_depends (has c.silent.items) all.q) given all.ended.none.next);
      none_left = all.ended.none.none_left;
    })

module _ (options : ConfigureOptions) (silent : ℕ → Bool) (start : Waiting) (before : Held) (s : State) where
  pub stop_of : (first now : List AUnit) (later : Waiting) (t : State) (u : AUnit) → HasStopped (IsTurn options silent) (λ left behind. IsAmidTurn options silent left) (λ left behind. HasCalledNext options silent left) start before s first now later t u
      → StopTurns options silent start before s first now (Some u) t
  stop_of first now later t u is =
      StopTurns.turning is.q is.after is.m is.turned is.since (record { broken = is.broken.broken; untouched = is.broken.untouched; called = is.broken.called })

  pub since_any : (may : Waiting → Type 0) (t : State) → Since (runs.IsAmidTurns (IsTurn options silent) (λ left behind. IsAmidTurn options silent left) may start before s) s t → Since (IsAmidTurns options silent start before s) s t
  since_any may t since = since_wider (IsTurn options silent) start before s (λ left behind. IsAmidTurn options silent left) may (λ later. Unit {0}) (λ q so. tt) t since
