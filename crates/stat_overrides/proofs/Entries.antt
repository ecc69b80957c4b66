-- Where the override of a path stands.
use Rattle.std.proofs.Common.{◌≡◌, ℕ, zero, suc, ◌<◌, List, [], ◌∷◌, length, get_or, Option, Some, None, refl, sym, ap, subst, ◌∙◌, arith, Contains}
use Rattle.name_tables.specs.Order.{AreInOrder, IsBefore, names_of}
use Rattle.name_tables.specs.Tables.{value_in}
use Rattle.name_tables.proofs.Ordered.{found_here, found_later, passed_over}
use Rattle.name_tables.proofs.Searching.{order_at}
use Rattle.stat_overrides.specs.Reading.{path_of}
use Rattle.stat_overrides.specs.declared.lines.Override.{Override}

pub value_there : (xs : List Override) (name : List ℕ) (at : ℕ) (x : Override) → AreInOrder path_of xs → at < length xs → x ≡ get_or xs at x → get_or (names_of path_of xs) at [] ≡ name → value_in path_of xs name ≡ Some x
value_there [] name at x order lt is e = absurd (omega (arith, lt))
value_there (y ∷ ys) name zero x order lt is e = found_here path_of ys y name e ∙ ap (λ (o : Override). Some o) (sym is)
value_there (y ∷ ys) name (suc i) x order lt is e =
    let before : IsBefore y.path name = subst (IsBefore y.path) e (order_at path_of (y ∷ ys) 0 (suc i) order (omega arith) lt) in
    found_later path_of name y ys before ∙ value_there ys name i x order.1 (omega (arith, lt)) is e

pub value_nowhere : (xs : List Override) (name : List ℕ) → (Contains (names_of path_of xs) name → ⊥) → value_in path_of xs name ≡ None
value_nowhere [] name none = refl
value_nowhere (y ∷ ys) name none =
    passed_over path_of ys y name (λ same. none (zero, omega arith, same)) ∙ value_nowhere ys name (λ has. none (suc has.0, omega (arith, has.1), has.2))
