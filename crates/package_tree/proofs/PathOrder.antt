-- Paths below paths, and their order.
use Rattle.std.proofs.Common.{◌≡◌, ◌⊎◌, zero, suc, false, List, [], ◌∷◌, ◌++◌, refl, sym, ap, subst, ◌∙◌, inl, inr, append_assoc, arith}
use Rattle.std.specs.Prelude.{Contains, IsSome}
use Rattle.std.specs.List.{AllByRecursion}
use Rattle.std.specs.Cmp.Lexicographic.{slice_cmp, nat_list_cmp_total}
use Rattle.std.specs.Cmp.{nat_cmp_total}
use Rattle.std.specs.Ordering.{nat_cmp, ordering_then}
use Rattle.std.specs.declared.cmp.Ordering.TheVariants.{Less, Equal}
use Rattle.std.proofs.lemmas.Cmp.{tied_itself}
use Rattle.host_core.specs.Paths.{Path}
use Rattle.host_core.specs.Tree.{IsBelow, IsTree, has_slash}
use Rattle.host_core.specs.World.{World, IsDirectory}
use Rattle.administration.proofs.Within.{first_name}
use Rattle.package_tree.specs.Shipped.{IsBefore, AreInOrder}
use Rattle.std.proofs.lemmas.List.Elements.{Contains-append_right}

there_from_directory : (w : World) (p : Path) → IsDirectory (w p) → IsSome (w p)
there_from_directory w p d = subst IsSome (sym d.1) refl

pub below_then : (a b c : Path) → IsBelow a b → IsBelow b c → IsBelow a c
below_then a b c p q = (p.0 ++ 47 ∷ q.0, q.1 ∙ ap (λ (l : Path). l ++ 47 ∷ q.0) p.1 ∙ append_assoc a (47 ∷ p.0) (47 ∷ q.0))

-- what stands below a path stands at or below a name in it
pub record Through (w : World) (a q : Path) : Type 0 where
  pub name : Path
  pub plain : has_slash name ≡ false
  pub there : IsSome (w (a ++ 47 ∷ name))
  pub ends : (q ≡ a ++ 47 ∷ name) ⊎ IsBelow (a ++ 47 ∷ name) q

pub descend : (w : World) (a q : Path) → IsTree w → IsBelow a q → IsSome (w q) → Through w a q
descend w a q tree below here =
    let first = first_name below.0 in
    elim first.ends [
      | inl e ↦ (let is : q ≡ a ++ 47 ∷ first.name = below.1 ∙ ap (λ (l : Path). a ++ 47 ∷ l) e in
          record { name = first.name; plain = first.plain; there = subst (λ (p : Path). IsSome (w p)) is here; ends = inl is })
      | inr m ↦ (let is : q ≡ (a ++ 47 ∷ first.name) ++ 47 ∷ m.0 = below.1 ∙ ap (λ (l : Path). a ++ 47 ∷ l) m.1 ∙ sym (append_assoc a (47 ∷ first.name) (47 ∷ m.0)) in
          record {
            name = first.name;
            plain = first.plain;
            there = there_from_directory w (a ++ 47 ∷ first.name) (tree (a ++ 47 ∷ first.name) m.0 (subst (λ (p : Path). IsSome (w p)) is here));
            ends = inr (m.0, is);
          })
    ]

goes_on : (p : Path) (rest : Path) → IsBefore p (p ++ 47 ∷ rest)
goes_on [] rest = refl
goes_on (x ∷ p) rest = ap (λ o. ordering_then o (slice_cmp nat_cmp p (p ++ 47 ∷ rest))) (tied_itself nat_cmp_total x) ∙ goes_on p rest

pub before_below : (p q : Path) → IsBelow p q → IsBefore p q
before_below p q below = subst (IsBefore p) (sym below.1) (goes_on p below.0)

pub before_then : (a b c : Path) → IsBefore a b → IsBefore b c → IsBefore a c
before_then a b c = nat_list_cmp_total.trans a b c

pub not_before_itself : (p : Path) → IsBefore p p → ⊥
not_before_itself p e = let o : Less ≡ Equal = sym e ∙ tied_itself nat_list_cmp_total p in absurd cc

-- nothing is before the root
pub none_before_root : (q : Path) → IsBefore q [] → ⊥
none_before_root [] e = not_before_itself [] e
none_before_root (x ∷ q) e = not_before_itself [] (before_then [] (x ∷ q) [] refl e)

all_snoc : (P : Path → Type 0) (ps : List Path) (x : Path) → AllByRecursion P ps → P x → AllByRecursion P (ps ++ x ∷ [])
all_snoc P [] x all holds = (holds, tt)
all_snoc P (p ∷ ps) x all holds = (all.0, all_snoc P ps x all.1 holds)

-- one path more, behind all others
pub in_order_snoc : (ps : List Path) (x : Path) → AreInOrder ps → ((p : Path) → Contains ps p → IsBefore p x) → AreInOrder (ps ++ x ∷ [])
in_order_snoc [] x order before = (tt, tt)
in_order_snoc (p ∷ ps) x order before = (
  all_snoc (IsBefore p) ps x order.0 (before p (0, omega arith, refl)),
  in_order_snoc ps x order.1 (λ q there. before q (Contains-append_right (p ∷ []) ps q there)),
)

-- each element of a list for which all hold
pub each_of : (P : Path → Type 0) (ps : List Path) (q : Path) → AllByRecursion P ps → Contains ps q → P q
each_of P [] q all (n, lt, is) = absurd (omega (arith, lt))
each_of P (p ∷ ps) q all (zero, lt, is) = subst P is all.0
each_of P (p ∷ ps) q all (suc n, lt, is) = each_of P ps q all.1 (n, omega (arith, lt), is)

-- in an ordered list what stands behind a path is after it
pub behind : (front rest : List Path) (p q : Path) → AreInOrder (front ++ p ∷ rest) → Contains rest q → IsBefore p q
behind [] rest p q order there = each_of (IsBefore p) rest q order.0 there
behind (x ∷ front) rest p q order there = behind front rest p q order.1 there
