-- A path is looked for among paths in their order, in one half after another.
use Rattle.std.proofs.Common.{◌≡◌, ◌<◌, ◌-◌, List, [], ◌∷◌, ◌++◌, take, drop, length, get_or, sym, ap, ap₂, subst, ◌∙◌, inl, inr, arith}
use Rattle.std.specs.Prelude.{Contains}
use Rattle.std.specs.Cmp.Lexicographic.{slice_cmp, nat_list_cmp_total}
use Rattle.std.specs.Ordering.{nat_cmp, is_eq, ordering_reverse}
use Rattle.std.specs.declared.cmp.Ordering.{Ordering}
use Rattle.std.specs.declared.cmp.Ordering.TheVariants.{Less, Equal, Greater}
use Rattle.std.proofs.lemmas.List.{take_all}
use Rattle.std.proofs.lemmas.List.Elements.{Contains-append_left, Contains-append_right}
use Rattle.std.proofs.lemmas.Map.Text.{is_eq-slice_cmp}
use Rattle.std.proofs.lemmas.Slice.Eq.{bytes_eq-Decides}
use Rattle.host_core.specs.Paths.{Path}
use Rattle.package_tree.specs.Shipped.{IsBefore, AreInOrder}
use Rattle.package_tree.proofs.PathOrder.{before_then, not_before_itself, behind}
use Rattle.package_tree.proofs.Firsts.{placed}
use Rattle.package_tree.proofs.Ordered.{in_later, order_front, order_rest, ahead}

-- the middle path, and what stands before and behind it
pub cut : (rest front back : List Path) (middle : Path) → rest ≡ front ++ back → 0 < length back → middle ≡ get_or back 0 middle → rest ≡ front ++ middle ∷ take (length back - 1) (drop 1 back)
cut rest front [] middle whole some is = absurd (omega (arith, some))
cut rest front (b ∷ back) middle whole some is = whole ∙ ap₂ (λ (p : Path) (ps : List Path). front ++ p ∷ ps) (sym is) (sym (take_all (length (b ∷ back) - 1) back (omega arith)))

pub record IsHalf (rest half : List Path) (path : Path) : Type 0 where
  pub order : AreInOrder half
  pub kept : Contains rest path → Contains half path
  pub from : Contains half path → Contains rest path

pub behind_middle : (rest front after : List Path) (middle path : Path) → AreInOrder rest → rest ≡ front ++ middle ∷ after → IsBefore middle path → IsHalf rest after path
behind_middle rest front after middle path order whole less =
    let ordered : AreInOrder (front ++ middle ∷ after) = subst AreInOrder whole order in
    record {
      order = (order_rest front (middle ∷ after) ordered).1;
      kept = λ has. elim (placed front after middle path (subst (λ (l : List Path). Contains l path) whole has)) [
        | inl before ↦ absurd (not_before_itself path (before_then path middle path (ahead front after middle path ordered before) less))
        | inr (inl same) ↦ absurd (not_before_itself path (subst (λ (p : Path). IsBefore p path) same less))
        | inr (inr later) ↦ later
      ];
      from = λ has. subst (λ (l : List Path). Contains l path) (sym whole) (Contains-append_right front (middle ∷ after) path (in_later middle after path has));
    }

pub before_middle : (rest front after : List Path) (middle path : Path) → AreInOrder rest → rest ≡ front ++ middle ∷ after → IsBefore path middle → IsHalf rest front path
before_middle rest front after middle path order whole less =
    let ordered : AreInOrder (front ++ middle ∷ after) = subst AreInOrder whole order in
    record {
      order = order_front front (middle ∷ after) ordered;
      kept = λ has. elim (placed front after middle path (subst (λ (l : List Path). Contains l path) whole has)) [
        | inl before ↦ before
        | inr (inl same) ↦ absurd (not_before_itself path (subst (IsBefore path) same less))
        | inr (inr later) ↦ absurd (not_before_itself path (before_then path middle path less (behind front after middle path ordered later)))
      ];
      from = λ has. subst (λ (l : List Path). Contains l path) (sym whole) (Contains-append_left front (middle ∷ after) path has);
    }

pub at_middle : (rest front after : List Path) (middle path : Path) → rest ≡ front ++ middle ∷ after → middle ≡ path → Contains rest path
at_middle rest front after middle path whole same = subst (λ (l : List Path). Contains l path) (sym whole) (Contains-append_right front (middle ∷ after) path (0, omega arith, same))

-- what a comparison tells
pub told_less : (o : Ordering) (a b c : Path) → o ≡ slice_cmp nat_cmp c b → o ≡ Less → c ≡ a → IsBefore a b
told_less o a b c says is same = subst (λ (p : Path). IsBefore p b) same (sym says ∙ is)

pub told_greater : (o : Ordering) (a b c : Path) → o ≡ slice_cmp nat_cmp c b → o ≡ Greater → c ≡ a → IsBefore b a
told_greater o a b c says is same = subst (IsBefore b) same (nat_list_cmp_total.antisymm b c ∙ ap ordering_reverse (sym says ∙ is))

pub told_equal : (o : Ordering) (a b c : Path) → o ≡ slice_cmp nat_cmp c b → o ≡ Equal → c ≡ a → a ≡ b
told_equal o a b c says is same = sym same ∙ (bytes_eq-Decides c b).0 (sym (is_eq-slice_cmp c b) ∙ ap is_eq (sym says ∙ is))
