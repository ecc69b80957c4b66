-- One turn is that of the next package.
use Rattle.std.proofs.Common.{◌≡◌, ℕ, Bool, inl, inr, List, ap, refl, subst, sym}
use Rattle.dependency_check.specs.Waiting.{Waiting}
use Rattle.host_core.specs.Events.{Event}
use Rattle.host_core.specs.Host.{State}
use Rattle.host_core.specs.World.{World}
use Rattle.unit_reports.specs.Held.{Held}
use Rattle.unit_reports.specs.declared.report.Unit.{Unit as AUnit}
use Rattle.unit_runs.specs.Turns as runs
use Rattle.unit_runs.specs.Turns.{IsBrokenNext}
use Rattle.configure_run.specs.declared.options.ConfigureOptions.{ConfigureOptions}
use Rattle.configure_run.specs.Taking.{IsAmidTurnOf, IsBrokenAt, IsTurnOf}
use Rattle.configure_run.specs.Whose.{IsWhoseTurn}
use Rattle.configure_run.specs.Turns.{HasCalledNext, IsAmidTurn, IsTurn, after_turn, is_done}

-- the left side of an equation
abbrev pub lhs : {A : Type 0} {a b : A} → a ≡ b → A
lhs {a = a} same = a

module _ (options : ConfigureOptions) (silent : ℕ → Bool) (q : Waiting) (x : ℕ) where
  pub takes_one : (before after : Held) (s t : State) (u : AUnit) → IsWhoseTurn options.ignore_depends silent q x → IsTurnOf options.policy q x before after s t u → IsTurn options silent q before u (after_turn (is_done u.reply) x q) after s t
  takes_one before after s t u next one = record {
    x = x;
    p = one.p;
    next = record { next = next; numbered = one.numbered };
    is = one.is;
    later_is = refl;
    moments = one.moments;
    answered = one.answered;
  }

  pub amid_next : (later : Waiting) (before : Held) (old : World) (so_far : List Event) (now : World) → IsWhoseTurn options.ignore_depends silent q x → IsAmidTurnOf options.policy q x before old so_far now
      → runs.IsAmidNext (λ left later. IsAmidTurn options silent left) q later before old so_far now
  amid_next later before old so_far now next (inl still) = inl still
  amid_next later before old so_far now next (inr amid) = inr (x, amid.0, record { next = next; numbered = amid.1 }, amid.2)

  pub broken_at : (later : Waiting) (before : Held) (s t : State) (u : AUnit) → IsWhoseTurn options.ignore_depends silent q x → IsBrokenAt options.policy q x before s t u → IsBrokenNext (λ left later. HasCalledNext options silent left) q later before s t u
  broken_at later before s t u next off = record { broken = off.broken; untouched = off.untouched; called = elim off.called [ inl none ↦ inl none | inr made ↦ inr (x, made.0, record { next = next; numbered = made.1 }, made.2) ] }
