-- Of which units the names are.
use Rattle.std.proofs.Common.{◌≡◌, ◌≤◌, ◌⊎◌, inl, inr, ℕ, zero, suc, true, List, [], ◌∷◌, ◌++◌, drop, length, refl, sym, ap, ◌∙◌, arith}
use Rattle.std.proofs.lemmas.List.{append-nil}
use Rattle.dpkg_session.specs.Installs.{names_done, stays}
use Rattle.unit_reports.specs.declared.report.Unit.{Unit as AUnit}

-- behind the last one

pub ends : (a b n at : ℕ) → (a ≤ n) ⊎ (b ≤ n) → n ≤ at → (a ≤ at) ⊎ (b ≤ at)
ends a b n at (inl whole) behind = inl (omega (arith, whole, behind))
ends a b n at (inr whole) behind = inr (omega (arith, whole, behind))

-- none takes it away

pub stays_behind : (at : ℕ) (names : List (List ℕ)) (us : List AUnit) (q : List ℕ) → (length names ≤ at) ⊎ (length us ≤ at) → stays (drop at names) (drop at us) q ≡ true
stays_behind zero [] us q end = refl
stays_behind zero (n ∷ names) [] q end = refl
stays_behind zero (n ∷ names) (u ∷ us) q (inl end) = absurd (omega (arith, end))
stays_behind zero (n ∷ names) (u ∷ us) q (inr end) = absurd (omega (arith, end))
stays_behind (suc at) [] us q end = refl
stays_behind (suc at) (n ∷ names) [] q end = stays_none (drop at names) q
  where
    stays_none : (ns : List (List ℕ)) (q : List ℕ) → stays ns [] q ≡ true
    stays_none [] q = refl
    stays_none (n ∷ ns) q = refl
stays_behind (suc at) (n ∷ names) (u ∷ us) q (inl end) = stays_behind at names us q (inl (omega (arith, end)))
stays_behind (suc at) (n ∷ names) (u ∷ us) q (inr end) = stays_behind at names us q (inr (omega (arith, end)))

-- no names

no_units : (names : List (List ℕ)) → names_done names [] ≡ []
no_units [] = refl
no_units (name ∷ names) = refl

none_behind : (at : ℕ) (names : List (List ℕ)) (us : List AUnit) → (length names ≤ at) ⊎ (length us ≤ at) → names_done (drop at names) (drop at us) ≡ []
none_behind zero [] us end = refl
none_behind zero (name ∷ names) [] end = refl
none_behind zero (name ∷ names) (u ∷ us) (inl end) = absurd (omega (arith, end))
none_behind zero (name ∷ names) (u ∷ us) (inr end) = absurd (omega (arith, end))
none_behind (suc at) [] us end = refl
none_behind (suc at) (name ∷ names) [] end = no_units (drop at names)
none_behind (suc at) (name ∷ names) (u ∷ us) (inl end) = none_behind at names us (inl (omega (arith, end)))
none_behind (suc at) (name ∷ names) (u ∷ us) (inr end) = none_behind at names us (inr (omega (arith, end)))

pub done_all : (names : List (List ℕ)) (us : List AUnit) (at : ℕ) (so_far : List (List ℕ)) → (length names ≤ at) ⊎ (length us ≤ at) → so_far ++ names_done (drop at names) (drop at us) ≡ names_done names us → so_far ≡ names_done names us
done_all names us at so_far end inv = sym (ap (λ (l : List (List ℕ)). so_far ++ l) (none_behind at names us end) ∙ append-nil so_far) ∙ inv
