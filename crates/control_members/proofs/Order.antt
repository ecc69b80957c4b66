-- Names in the order of their bytes.
use Rattle.std.proofs.Common.{ℕ, zero, suc, ◌<◌, List, [], ◌∷◌, ◌++◌, length, get_or, refl, arith, Contains}
use Rattle.std.specs.List.{AllByRecursion}
use Rattle.host_core.specs.Paths.{Path}
use Rattle.control_members.specs.Members.{IsBefore, AreInOrder}

pub all_at : {X : Type 0} (P : X → Type 0) (xs : List X) (i : ℕ) (d : X) → AllByRecursion P xs → i < length xs → P (get_or xs i d)
all_at P [] i d all lt = absurd (omega (arith, lt))
all_at P (x ∷ xs) zero d all lt = all.0
all_at P (x ∷ xs) (suc i) d all lt = all_at P xs i d all.1 (omega (arith, lt))

pub all_from : {X : Type 0} (P : X → Type 0) (xs : List X) → ((x : X) → Contains xs x → P x) → AllByRecursion P xs
all_from P [] each = tt
all_from P (x ∷ xs) each = (each x (zero, omega arith, refl), all_from P xs (λ y has. each y (suc has.0, omega (arith, has.1), has.2)))

-- one more, which is behind all
pub order_more : (xs : List Path) (y : Path) → AreInOrder xs → AllByRecursion (λ x. IsBefore x y) xs → AreInOrder (xs ++ y ∷ [])
order_more [] y order below = (tt, tt)
order_more (x ∷ xs) y order below = (behind xs order.0, order_more xs y order.1 below.1)
  where
    behind : (zs : List Path) → AllByRecursion (λ z. IsBefore x z) zs → AllByRecursion (λ z. IsBefore x z) (zs ++ y ∷ [])
    behind [] all = (below.0, tt)
    behind (z ∷ zs) all = (all.0, behind zs all.1)
