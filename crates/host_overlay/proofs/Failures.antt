-- Which of the calls that are assumed to fail is met, by its place.
use Rattle.std.proofs.Common.{◌≡◌, ◌+◌, ℕ, suc, Bool, true, false, cond, ◌||◌, List, [], ◌∷◌, ◌++◌, Some, None, take, drop, refl, ap, arith}
use Rattle.std.specs.List.{list_any, position_from}
use Rattle.host_core.specs.declared.call.Call.{Call}
use Rattle.host_overlay.specs.Failing.{names, left_of}
use Rattle.host_overlay.specs.declared.failing.AssumedFailure.{AssumedFailure}

module _ (call : Call) where
  abbrev pub named : AssumedFailure → Bool
  named f = names f call

  abbrev pub IsFound : List AssumedFailure → ℕ → ℕ → Type 0
  IsFound fs k j = (i : ℕ) × (j ≡ k + i) × (left_of fs call ≡ take i fs ++ drop (suc i) fs) × (list_any named fs ≡ true)

  pub found_at : (fs : List AssumedFailure) (k j : ℕ) → position_from named k fs ≡ Some j → IsFound fs k j
  found_at [] k j is = absurd cc
  found_at (f ∷ fs) k j is = by (names f call) (found_at fs (k + 1) j) is
    where
      by : (b : Bool) → (position_from named (k + 1) fs ≡ Some j → IsFound fs (k + 1) j) → cond b (Some k) (position_from named (k + 1) fs) ≡ Some j
          → (i : ℕ) × (j ≡ k + i) × (cond b fs (f ∷ left_of fs call) ≡ take i (f ∷ fs) ++ drop (suc i) (f ∷ fs)) × ((b || list_any named fs) ≡ true)
      by true rest e = (let same : k ≡ j = cc e in (0, omega (arith, same), refl, refl))
      by false rest e = (let r = rest e in (suc r.0, omega (arith, r.1), ap (λ (l : List AssumedFailure). f ∷ l) r.2, r.3))

  pub none_at : (fs : List AssumedFailure) (k : ℕ) → position_from named k fs ≡ None → (left_of fs call ≡ fs) × (list_any named fs ≡ false)
  none_at [] k is = (refl, refl)
  none_at (f ∷ fs) k is = by (names f call) (none_at fs (k + 1)) is
    where
      by : (b : Bool) → (position_from named (k + 1) fs ≡ None → (left_of fs call ≡ fs) × (list_any named fs ≡ false)) → cond b (Some k) (position_from named (k + 1) fs) ≡ None → (cond b fs (f ∷ left_of fs call) ≡ f ∷ fs) × ((b || list_any named fs) ≡ false)
      by true rest e = absurd (cc e)
      by false rest e = (let r = rest e in (ap (λ (l : List AssumedFailure). f ∷ l) r.0, r.1))
