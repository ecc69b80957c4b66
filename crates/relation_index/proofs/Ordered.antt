-- The order of names, by neighbours and one by one.
use Rattle.std.proofs.Common.{◌≡◌, ℕ, zero, suc, ◌+◌, Bool, true, false, List, [], ◌∷◌, get_or, refl, subst, arith}
use Rattle.std.specs.Prelude.{IsTrue, ◌↔◌, MatchBool}
use Rattle.std.proofs.lemmas.Bool.{false≢true}
pub use Rattle.name_tables.proofs.Names.{before_differs}
use Rattle.name_tables.proofs.Ordered.{before_all_then}
use Rattle.relation_index.specs.Order.{IsBefore, AreInOrder, name_of}
use Rattle.relation_index.specs.Packages.{AreInNameOrder}
use Rattle.relation_index.specs.declared.package.Package.{Package}

pub in_order : (ps : List Package) → AreInNameOrder ps → AreInOrder ps
in_order [] each = tt
in_order (x ∷ []) each = (tt, tt)
in_order (x ∷ y ∷ ps) each =
    let less : IsBefore x.name y.name = each 0 x (omega arith) in
    let rest : AreInOrder (y ∷ ps) = in_order (y ∷ ps) (λ k d lt. subst (λ (m : ℕ). IsBefore (get_or (y ∷ ps) k d).name (get_or (x ∷ y ∷ ps) m d).name) (next k) (each (suc k) d (omega (arith, lt)))) in
    ((less, before_all_then name_of x.name y.name ps less rest.0), rest)
  where
    next : (k : ℕ) → suc k + 1 ≡ suc (k + 1)
    next k = omega arith

in_name_order_more : (x y : Package) (ps : List Package) → IsBefore x.name y.name → AreInNameOrder (y ∷ ps) → AreInNameOrder (x ∷ y ∷ ps)
in_name_order_more x y ps less rest zero d lt = less
in_name_order_more x y ps less rest (suc k) d lt =
    let later : suc (k + 1) ≡ suc k + 1 = omega arith in
    subst (λ (m : ℕ). IsBefore (get_or (y ∷ ps) k d).name (get_or (x ∷ y ∷ ps) m d).name) later (rest k d (omega (arith, lt)))

pub in_name_order : (ps : List Package) → AreInOrder ps → AreInNameOrder ps
in_name_order [] order = λ k d lt. absurd (omega (arith, lt))
in_name_order (x ∷ []) order = λ k d lt. absurd (omega (arith, lt))
in_name_order (x ∷ y ∷ ps) order = in_name_order_more x y ps order.0.0 (in_name_order (y ∷ ps) order.1)

-- a search told whether they are in order
pub told_order : (b : Bool) (ps : List Package) → MatchBool b (AreInOrder ps) (AreInOrder ps → ⊥) → IsTrue b ↔ AreInNameOrder ps
told_order true ps told = (λ t. in_name_order ps told, λ each. refl)
told_order false ps told = (λ t. absurd (false≢true t), λ each. absurd (told (in_order ps each)))
