-- The first path of a tree with a fault.
use Rattle.std.proofs.Common.{◌≡◌, ◌⊎◌, ◌<◌, Bool, true, false, ℕ, zero, suc, List, [], ◌∷◌, ◌++◌, get_or, take, drop, length, not, codes, Option, Some, None, refl, sym, ap, subst, ◌∙◌, inl, inr, arith}
use Rattle.std.specs.Prelude.{◌||◌, ◌&&◌, nat_le, Contains, MatchOption}
use Rattle.std.specs.Str.{bytes_eq}
use Rattle.std.specs.Cmp.Lexicographic.{slice_cmp, nat_list_cmp_total}
use Rattle.std.specs.Ordering.{nat_cmp, ordering_reverse}
use Rattle.std.specs.declared.cmp.Ordering.{Ordering}
use Rattle.std.specs.declared.cmp.Ordering.TheVariants.{Less, Equal, Greater}
use Rattle.std.proofs.Math.Seq.{split_at}
use Rattle.std.proofs.lemmas.Bool.{true≢false, false≢true, and_parts, false_from_ne_true}
use Rattle.std.proofs.lemmas.Slice.Eq.{bytes_eq-Decides}
use Rattle.std.proofs.lemmas.List.Elements.{Contains-append_right, Contains-append_cases}
use Rattle.host_core.specs.Paths.{Path, is_path, is_path_text, is_rooted, has_room, has_reserved_suffix, is_below_administration}
use Rattle.host_core.specs.Tree.{IsBelow}
use Rattle.host_core.specs.World.{World}
use Rattle.package_tree.specs.Debian.{is_wrong, member_paths, HasNoneWrong, IsFirstWrong}
use Rattle.package_tree.specs.PathFaults.{IsWrongMember, IsBadPath, IsLesser, HasGoodPaths, HasNoneReserved, IsFirstReserved}
use Rattle.package_tree.specs.Shipped.{IsBefore, AreInOrder, AreShipped, IsBadBeside, IsFirstPath, HasNoPath, IsShipped, IsReserved, is_reserved, IsShipLine, ArePathTexts}
use Rattle.package_tree.proofs.PathOrder.{before_then, not_before_itself, behind, each_of}

-- an element of a list stands before one place, at it or behind it
pub placed : (front rest : List Path) (p q : Path) → Contains (front ++ p ∷ rest) q → Contains front q ⊎ ((p ≡ q) ⊎ Contains rest q)
placed front rest p q there = elim (Contains-append_cases front (p ∷ rest) q there) [
  | inl before ↦ inl before
  | inr (zero, lt, is) ↦ inr (inl is)
  | inr (suc n, lt, is) ↦ inr (inr (n, omega (arith, lt), is))
]

-- the first in an ordered list is the first in path order
pub first_in_order : (P : Path → Type 0) (front rest : List Path) (p : Path) → AreInOrder (front ++ p ∷ rest) → ((q : Path) → P q → Contains (front ++ p ∷ rest) q) → P p → ((q : Path) → Contains front q → P q → ⊥) → IsFirstPath P p
first_in_order P front rest p order listed holds none = record {
  holds = holds;
  first = λ q is before. elim (placed front rest p q (listed q is)) [
    | inl ahead ↦ none q ahead is
    | inr (inl same) ↦ not_before_itself p (subst (λ (x : Path). IsBefore x p) (sym same) before)
    | inr (inr later) ↦ not_before_itself p (before_then p q p (behind front rest p q order later) before)
  ];
}

-- reserved paths

pub none_reserved : (w : World) (paths : List Path) → AreShipped w paths → HasNoneReserved paths → HasNoPath (IsReserved w)
none_reserved w paths are none q is = true≢false (sym is.1 ∙ each_of (λ p. is_reserved p ≡ false) paths q none (are.whole q is.0))

pub first_reserved : (w : World) (paths : List Path) (path : Path) → AreShipped w paths → IsFirstReserved paths path → IsFirstPath (IsReserved w) path
first_reserved w paths path are first =
    let at : Contains paths path = subst (λ (l : List Path). Contains l path) (sym first.is) (Contains-append_right first.front (path ∷ first.rest) path (0, omega arith, refl)) in
    first_in_order (IsReserved w) first.front first.rest path (subst AreInOrder first.is are.order)
    (λ q is. subst (λ (l : List Path). Contains l q) first.is (are.whole q is.0))
    (are.only path at, first.reserved)
    (λ q ahead is. true≢false (sym is.1 ∙ each_of (λ p. is_reserved p ≡ false) first.front q first.first ahead))

pub reserved_at : (paths : List Path) (i : ℕ) (path : Path) → i < length paths → path ≡ get_or paths i path → HasNoneReserved (take i paths) → is_reserved path ≡ true → IsFirstReserved paths path
reserved_at paths i path lt is none reserved = record {
  front = take i paths;
  rest = drop (suc i) paths;
  is = split_at paths i path lt ∙ ap (λ (p : Path). take i paths ++ p ∷ drop (suc i) paths) (sym is);
  reserved = reserved;
  first = none;
}

-- bad paths

members_in_order : AreInOrder member_paths
members_in_order = ((refl, (refl, (refl, (refl, tt)))), ((refl, (refl, (refl, tt))), ((refl, (refl, tt)), ((refl, tt), (tt, tt)))))

pub none_wrong : (w : World) → HasNoneWrong w member_paths → HasNoPath (IsWrongMember w)
none_wrong w none q is = true≢false (sym is.wrong ∙ each_of (λ p. is_wrong (w p) ≡ false) member_paths q none is.member)

first_wrong : (w : World) (path : Path) → IsFirstWrong w member_paths path → IsFirstPath (IsWrongMember w) path
first_wrong w path first =
    let at : Contains member_paths path = subst (λ (l : List Path). Contains l path) (sym first.is) (Contains-append_right first.before (path ∷ first.after) path (0, omega arith, refl)) in
    first_in_order (IsWrongMember w) first.before first.after path (subst AreInOrder first.is members_in_order)
    (λ q is. subst (λ (l : List Path). Contains l q) first.is is.member)
    record { member = at; wrong = first.wrong }
    (λ q ahead is. true≢false (sym is.wrong ∙ each_of (λ p. is_wrong (w p) ≡ false) first.before q first.first ahead))

pub wrong_told : (w : World) (wrong : Option Path) → MatchOption wrong (HasNoneWrong w member_paths) (IsFirstWrong w member_paths) → MatchOption wrong (HasNoPath (IsWrongMember w)) (IsFirstPath (IsWrongMember w))
wrong_told w None says = none_wrong w says
wrong_told w (Some path) says = first_wrong w path says

-- the first of two kinds of faults

least_of : (b a x : Path) → (IsBefore x b → ⊥) → (IsBefore b a → ⊥) → IsBefore x a → ⊥
least_of b a x none apart before = at (slice_cmp nat_cmp x b) refl
  where
    at : (o : Ordering) → slice_cmp nat_cmp x b ≡ o → ⊥
    at Less e = none e
    at Equal e = apart (sym (nat_list_cmp_total.congr x b a e) ∙ before)
    at Greater e = apart (before_then b x a (nat_list_cmp_total.antisymm b x ∙ ap ordering_reverse e) before)

pub first_of_both : (P Q : Path → Type 0) (A B : Type 0) → (A → HasNoPath P) → (B → HasNoPath Q) → (a b lesser : Option Path) → MatchOption a A (IsFirstPath P) → MatchOption b B (IsFirstPath Q) → IsLesser a b lesser
    → MatchOption lesser (A × B) (IsFirstPath (λ q. P q ⊎ Q q))
first_of_both P Q A B no_p no_q None None lesser p q is = subst (λ (o : Option Path). MatchOption o (A × B) (IsFirstPath (λ q. P q ⊎ Q q))) (sym is) (p, q)
first_of_both P Q A B no_p no_q None (Some b) lesser p q is = subst (λ (o : Option Path). MatchOption o (A × B) (IsFirstPath (λ q. P q ⊎ Q q))) (sym is)
    record { holds = inr q.holds; first = λ x either before. elim either [ inl px ↦ no_p p x px | inr qx ↦ q.first x qx before ] }
first_of_both P Q A B no_p no_q (Some a) None lesser p q is = subst (λ (o : Option Path). MatchOption o (A × B) (IsFirstPath (λ q. P q ⊎ Q q))) (sym is)
    record { holds = inl p.holds; first = λ x either before. elim either [ inl px ↦ p.first x px before | inr qx ↦ no_q q x qx ] }
first_of_both P Q A B no_p no_q (Some a) (Some b) lesser p q (inl is) = subst (λ (o : Option Path). MatchOption o (A × B) (IsFirstPath (λ q. P q ⊎ Q q))) (sym is.0)
    record { holds = inl p.holds; first = λ x either before. elim either [ inl px ↦ p.first x px before | inr qx ↦ least_of b a x (q.first x qx) is.1 before ] }
first_of_both P Q A B no_p no_q (Some a) (Some b) lesser p q (inr is) = subst (λ (o : Option Path). MatchOption o (A × B) (IsFirstPath (λ q. P q ⊎ Q q))) (sym is.0)
    record { holds = inr q.holds; first = λ x either before. elim either [ inl px ↦ p.first x px (before_then x b a before is.1) | inr qx ↦ q.first x qx before ] }

pub bad_told : (w : World) (found : List Path) (wrong bad lesser : Option Path) → MatchOption wrong (HasNoneWrong w member_paths) (IsFirstWrong w member_paths) → MatchOption bad (HasNoPath (IsBadBeside w) × AreShipped w found) (IsFirstPath (IsBadBeside w))
    → IsLesser wrong bad lesser → MatchOption lesser (HasNoneWrong w member_paths × (HasNoPath (IsBadBeside w) × AreShipped w found)) (IsFirstPath (IsBadPath w))
bad_told w found wrong bad lesser first second is =
    first_of_both (IsWrongMember w) (IsBadBeside w) (HasNoneWrong w member_paths) (HasNoPath (IsBadBeside w) × AreShipped w found) (none_wrong w) (λ b. b.0) wrong bad lesser (members_told wrong first) second is
  where
    members_told : (o : Option Path) → MatchOption o (HasNoneWrong w member_paths) (IsFirstWrong w member_paths) → MatchOption o (HasNoneWrong w member_paths) (IsFirstPath (IsWrongMember w))
    members_told None says = says
    members_told (Some path) says = first_wrong w path says

pub no_bad_path : (w : World) → HasNoneWrong w member_paths → HasNoPath (IsBadBeside w) → HasNoPath (IsBadPath w)
no_bad_path w files beside q (inl member) = none_wrong w files q member
no_bad_path w files beside q (inr bad) = beside q bad

-- what is shipped is the path of a package, where no path is bad or reserved

not_true : (b : Bool) → (b ≡ false → ⊥) → b ≡ true
not_true true apart = refl
not_true false apart = absurd (apart refl)

both : (a b : Bool) → a ≡ true → b ≡ true → a && b ≡ true
both true b x y = y
both false b x y = absurd (false≢true x)

neither : (a b : Bool) → (a || b ≡ true → ⊥) → (a ≡ false) × (b ≡ false)
neither true b no_one = absurd (no_one refl)
neither false true no_one = absurd (no_one refl)
neither false false no_one = (refl, refl)

or_of : (a b : Bool) → b ≡ true → a || b ≡ true
or_of true b is = refl
or_of false b is = is

rooted_of : (p : Path) → is_path p ≡ true → bytes_eq p [] ≡ false → is_rooted p ≡ true
rooted_of p is other = subst (λ b. b || is_rooted p ≡ true) other (and_parts (nat_le (length p) 1000) (bytes_eq p [] || is_rooted p) is).1

text_of_path : (q : Path) → IsBelow [] q → is_path q ≡ true → (is_path_text q ≡ true) × (bytes_eq q (codes "/") ≡ false)
text_of_path q below is =
    let some : bytes_eq q [] ≡ false = false_from_ne_true (bytes_eq q []) (λ e. absurd (omega (arith, ap length below.1, ap length ((bytes_eq-Decides q []).0 e)))) in
    let rooted = rooted_of q is some in
    let few = (and_parts (nat_le (length q) 1000) (bytes_eq q [] || is_rooted q) is).0 in (
      both (nat_le (length q) 1000) (bytes_eq q (codes "/") || is_rooted q) few (or_of (bytes_eq q (codes "/")) (is_rooted q) rooted),
      false_from_ne_true (bytes_eq q (codes "/")) (λ e. false≢true (ap is_rooted (sym ((bytes_eq-Decides q (codes "/")).0 e)) ∙ rooted)),
    )

pub ship_line : (w : World) (paths : List Path) → HasGoodPaths w → AreShipped w paths → ArePathTexts paths → (q : Path) → IsShipped w q → IsShipLine q
ship_line w paths good are texts q shipped =
    let text = texts q (are.whole q shipped) in
    let parts = text_of_path q shipped.stands.below text.1 in
    let room : has_room q ≡ true = not_true (has_room q) (λ narrow. good.beside q (inr (shipped.stands, inl narrow))) in
    let plain = neither (has_reserved_suffix q) (is_below_administration q) (λ is. good.reserved q (shipped, is)) in (
      text.0,
      both (is_path_text q) _ parts.0 (both (has_room q) _ room (both (not (bytes_eq q (codes "/"))) _ (ap not parts.1) (both (not (has_reserved_suffix q)) (not (is_below_administration q)) (ap not plain.0) (ap not plain.1)))),
    )
