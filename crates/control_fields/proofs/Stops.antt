-- Where reading stops.
use Rattle.std.proofs.lemmas.Bool.{false≢true}
use Rattle.std.proofs.Common.{◌≡◌, ◌+◌, ◌≤◌, ℕ, true, false, Bool, List, ◌∷◌, ◌++◌, length, refl, sym, ap, subst, ◌∙◌, inl, inr}
use Rattle.std.specs.Prelude.{IsTrue, Result, Ok, Err, IfErr}
use Rattle.control_fields.specs.Grammar.{Reading, start, closed, Takes, Run}
use Rattle.control_fields.specs.Faults.{IsFaultAt, IsFaultHere, IsFaultOf, IsFaultOfOne, StopsAt}
use Rattle.control_fields.specs.Told.{told}
use Rattle.control_fields.specs.declared.fault.ControlFault.{ControlFault}
use Rattle.control_fields.specs.declared.fault.ControlFault.TheVariants.{Second}

pub stops_at : (single : Bool) (ls front : List (List ℕ)) (bytes : List ℕ) (rest : List (List ℕ)) (n : ℕ) (s t : Reading) (e : ControlFault) → ls ≡ front ++ bytes ∷ rest → n ≡ length front + 1 → Run 1 front start s
    → (IsTrue single → length (closed s) ≤ 1) → IsFaultHere single e n bytes s t → StopsAt single ls e t
stops_at single ls front bytes rest n s t e is count run one here = elim here [
  | inl m ↦ inl m
  | inr (inl h) ↦ inr (inl (
    record { front = front; bytes = bytes; rest = rest; is = is; run = subst (λ (r : Reading). Run 1 front start r) (sym h.3) run; kind = h.0; here = subst (λ (r : Reading). IsFaultAt h.0 bytes r) (sym h.3) h.1; as_told = h.2 ∙ ap (told h.0) count },
    λ y. subst (λ (r : Reading). length (closed r) ≤ 1) (sym h.3) (one y),
  ))
  | inr (inr h) ↦ inr (inr (
    h.0,
    record { front = front; bytes = bytes; rest = rest; is = is; s = s; run = run; one = one h.0; t = t; takes = subst (λ (i : ℕ). Takes i bytes s t) count h.1; two = h.2; as_told = h.3 ∙ ap Second count },
  ))
]

pub fault_of : (ls : List (List ℕ)) (s : Reading) (e : ControlFault) → StopsAt false ls e s → IsFaultOf ls e
fault_of ls s e stops = elim stops [
  | inl m ↦ inl m
  | inr (inl f) ↦ inr (s, f.0)
  | inr (inr f) ↦ absurd (false≢true f.0)
]

pub one_of : (ls : List (List ℕ)) (s : Reading) (e : ControlFault) → StopsAt true ls e s → IsFaultOfOne ls e
one_of ls s e stops = elim stops [
  | inl m ↦ inl m
  | inr (inl f) ↦ inr (inl (s, f.0, f.1 refl))
  | inr (inr f) ↦ inr (inr f.1)
]

-- the state that reading stopped at is one
pub stops_somewhere : {T : Type 0} (single : Bool) (ls : List (List ℕ)) (s : Reading) (r : Result T ControlFault) → IfErr r (λ e. StopsAt single ls e s) → IfErr r (λ e. (x : Reading) × StopsAt single ls e x)
stops_somewhere single ls s (Ok v) h = tt
stops_somewhere single ls s (Err e) h = (s, h)
