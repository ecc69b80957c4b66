-- Spots in their order.
use Rattle.std.proofs.Common.{◌≡◌, inl, inr, ℕ, suc, List, refl, sym, ap, subst, ◌∙◌, arith, Contains}
use Rattle.std.specs.Prelude.{All}
use Rattle.std.specs.Ordering.{nat_cmp, ordering_then}
use Rattle.std.specs.Cmp.{ranked}
use Rattle.std.specs.BTreeMap.Range.{IsLtBy}
use Rattle.std.specs.declared.cmp.Ordering.{Ordering}
use Rattle.std.specs.declared.cmp.Ordering.TheVariants.{Less, Equal, Greater}
use Rattle.std.proofs.lemmas.Map.Lookups.{exact_unsigned}
use Rattle.file_lists.specs.declared.spot.Spot.{Spot}
use Rattle.file_lists.specs.Index.{spot_of, IsFrom}

-- by the list, then by the path
abbrev pub spot_cmp : Spot → Spot → Ordering
spot_cmp a b = ordering_then (nat_cmp a.list b.list) (nat_cmp a.path b.path)

pub spot_exact : (a b : Spot) → spot_cmp a b ≡ Equal → a ≡ b
spot_exact a b is = at (nat_cmp a.list b.list) refl is
  where
    at : (o : Ordering) → nat_cmp a.list b.list ≡ o → ordering_then o (nat_cmp a.path b.path) ≡ Equal → a ≡ b
    at Less e same = absurd cc
    at Equal e same = ap (λ (n : ℕ). spot_of n a.path) (exact_unsigned a.list b.list e) ∙ ap (spot_of b.list) (exact_unsigned a.path b.path same)
    at Greater e same = absurd cc

behind_one : (a b : Spot) → spot_cmp a b ≡ Less → IsFrom a.list (suc a.path) b
behind_one a b is = at (nat_cmp a.list b.list) refl is
  where
    at : (o : Ordering) → nat_cmp a.list b.list ≡ o → ordering_then o (nat_cmp a.path b.path) ≡ Less → IsFrom a.list (suc a.path) b
    at Less e less = inl (ranked a.list b.list Less (sym e))
    at Equal e less = inr (exact_unsigned a.list b.list e, omega (arith, ranked a.path b.path Less (sym less)))
    at Greater e less = absurd cc

-- what is left of a set is behind the one that was the least
pub behind_least : (spot : Spot) (after : List Spot) → All (IsLtBy spot_cmp spot) after → (s : Spot) → Contains after s → IsFrom spot.list (suc spot.path) s
behind_least spot after all s has = behind_one spot s (subst (λ (x : Spot). spot_cmp spot x ≡ Less) has.2 (all has.0 s has.1))
