-- Names in the order of their bytes.
use Rattle.std.proofs.Common.{◌≡◌, ◌≢◌, ℕ, true, false, List, refl, sym, ap, subst, ◌∙◌}
use Rattle.std.specs.Str.{bytes_eq}
use Rattle.std.specs.Ordering.{nat_cmp, is_lt, ordering_reverse}
use Rattle.std.specs.Cmp.Lexicographic.{slice_cmp}
use Rattle.std.specs.declared.cmp.Ordering.{Ordering}
use Rattle.std.specs.declared.cmp.Ordering.TheVariants.{Less, Equal, Greater}
use Rattle.std.proofs.lemmas.Bool.{true≢false, false≢true, false_from_ne_true}
use Rattle.std.proofs.lemmas.Cmp.{tied_itself, nat_list_cmp_total}
use Rattle.std.proofs.lemmas.Map.Lookups.{exact_bytes}
use Rattle.std.proofs.lemmas.Slice.Eq.{bytes_eq-Decides}
use Rattle.name_tables.specs.Order.{IsBefore}

pub not_before_itself : (name : List ℕ) → IsBefore name name → ⊥
not_before_itself name e = let o : Less ≡ Equal = sym e ∙ tied_itself nat_list_cmp_total name in absurd cc

pub before_differs : (a b : List ℕ) → IsBefore a b → a ≢ b
before_differs a b less e = absurd (not_before_itself b (subst (λ (x : List ℕ). IsBefore x b) e less))

pub before_then : (a b c : List ℕ) → IsBefore a b → IsBefore b c → IsBefore a c
before_then a b c first second = nat_list_cmp_total.trans a b c first second

-- of two names that differ one is before the other
pub either_before : (a b : List ℕ) → a ≢ b → (IsBefore a b → ⊥) → IsBefore b a
either_before a b ne not_less = at (slice_cmp nat_cmp a b) refl
  where
    at : (o : Ordering) → slice_cmp nat_cmp a b ≡ o → IsBefore b a
    at Less e = absurd (not_less e)
    at Equal e = absurd (ne (exact_bytes a b e))
    at Greater e = nat_list_cmp_total.antisymm b a ∙ ap ordering_reverse e

pub told_before : (o : Ordering) → is_lt o ≡ true → o ≡ Less
told_before Less is = refl
told_before Equal is = absurd (false≢true is)
told_before Greater is = absurd (false≢true is)

pub not_told_before : (o : Ordering) → is_lt o ≡ false → o ≡ Less → ⊥
not_told_before o is less = true≢false (sym (ap is_lt less) ∙ is)

pub differs : (a b : List ℕ) → a ≢ b → bytes_eq a b ≡ false
differs a b ne = false_from_ne_true (bytes_eq a b) (λ t. ne ((bytes_eq-Decides a b).0 t))
