-- The units of some names, one after another.
use Rattle.std.proofs.Common.{◌≡◌, inl, inr, ℕ, List, [], ◌∷◌, subst}
use Rattle.host_core.specs.Host.{State, AtEachMomentOf, Since}
use Rattle.host_core.proofs.Moments.{since_start, since_weaker}
use Rattle.unit_reports.specs.Held.{Held}
use Rattle.unit_reports.specs.declared.report.Unit.{Unit as AUnit}
use Rattle.unit_runs.specs.Turns as runs
use Rattle.unit_runs.specs.Turns.{HaveAllTurned, IsBrokenNext as IsBrokenBehind}
use Rattle.unit_runs.proofs.Going.{since_wider, still_here}
use Rattle.trigger_run.specs.Turns.{HasCalledNext, HasTurned, IsAmidTurn, IsAmidTurns, IsTurn}
use Rattle.trigger_run.specs.Units.{IsAmidUnitOf, IsBrokenOff, HasCalledUnitOf}

-- at each moment of the next one
module _ (names later : List (List ℕ)) (before : Held) where
  pub since_next_start : (s : State) → AtEachMomentOf (runs.IsAmidNext (λ left behind. IsAmidTurn left) names later before) s s
  since_next_start s = since_start (runs.IsAmidNext (λ left behind. IsAmidTurn left) names later before s.world) s (inl (still_here s.world))

  module _ (name : List ℕ) (left : List (List ℕ)) (first : names ≡ name ∷ left) where
    pub since_next : (s t : State) → AtEachMomentOf (IsAmidUnitOf name before) s t → AtEachMomentOf (runs.IsAmidNext (λ left behind. IsAmidTurn left) names later before) s t
    since_next s t since =
        since_weaker (IsAmidUnitOf name before s.world) (runs.IsAmidNext (λ left behind. IsAmidTurn left) names later before s.world) s t (λ so_far w is. elim is [
          | inl still ↦ inl still
          | inr amid ↦ inr (name, record { left = left; first = first; ready = amid.0 }, amid.1)
        ]) since

    called_next : (s t : State) (u : AUnit) → HasCalledUnitOf name before s t u → HasCalledNext names before s t u
    called_next s t u (inl none) = inl none
    called_next s t u (inr called) = inr (name, record { left = left; first = first; ready = called.0 }, called.1)

    -- the next one was broken off
    pub broken_one : (s t : State) (u : AUnit) → IsBrokenOff name before u s t → IsBrokenBehind (λ left behind. HasCalledNext left) names later before s t u
    broken_one s t u off = record { broken = off.broken; untouched = off.untouched; called = called_next s t u off.called }

-- all names have had their units
pub all_over : (start : List (List ℕ)) (before after : Held) (s t : State) (old new : List AUnit) → HaveAllTurned IsTurn (λ left held. left ≡ []) start before s old new after t → HasTurned start [] before after s t old new
all_over start before after s t old new all = subst (λ (left : List (List ℕ)). HasTurned start left before after s t old new) all.ended all.turned

pub since_any : (may : List (List ℕ) → Type 0) (names : List (List ℕ)) (before : Held) (s t : State) → Since (runs.IsAmidTurns IsTurn (λ left behind. IsAmidTurn left) may names before s) s t → Since (IsAmidTurns names before s) s t
since_any may names before s t since = since_wider IsTurn names before s (λ left behind. IsAmidTurn left) may (λ later. Unit {0}) (λ q so. tt) t since
