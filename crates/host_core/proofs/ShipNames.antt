-- What holds of the path of a shipped file, and of the names beside it.
use Rattle.std.proofs.Common.{◌≡◌, ◌≢◌, ◌⊎◌, inl, inr, ℕ, ◌+◌, ◌-◌, ◌≤◌, ◌||◌, ◌&&◌, not, Bool, true, false, List, [], ◌∷◌, ◌++◌, codes, length, take, drop, get_or, nat_eq, Contains, refl, sym, ap, subst, ◌∙◌, arith, append_assoc}
use Rattle.std.specs.Prelude.{nat_le, IsSome}
use Rattle.std.specs.List.{list_all, list_any, ends_with}
use Rattle.std.specs.Str.{bytes_eq}
use Rattle.std.proofs.lemmas.Bool.{and_parts, eqb-true, false_from_ne_true, true≢false, false≢true, leb-true, le-leb}
use Rattle.std.proofs.lemmas.Cmp.{nat_eq_equiv}
use Rattle.std.proofs.lemmas.Map.Views.{list_any-from_Contains}
use Rattle.std.proofs.lemmas.Slice.Eq.{bytes_eq-Decides}
use Rattle.std.proofs.lemmas.List.{append-nil, append_cancel_right, get_or-append_right, length-append, take-append-drop}
use Rattle.std.proofs.Math.Seq.{drop-append_seam}
use Rattle.host_core.specs.Paths.{Path, components, is_path, is_path_text, is_rooted, is_short, has_room, has_reserved_suffix, is_below_administration, is_ship_text}
use Rattle.host_core.specs.World.{World, HasParent}
use Rattle.host_core.specs.Tree.{IsTree}
use Rattle.host_core.specs.Unsynced.{is_temporary}
use Rattle.host_core.specs.Suffixes.{suffix_text}
use Rattle.host_core.specs.declared.suffix.Suffix.{Suffix}
use Rattle.host_core.specs.declared.suffix.Suffix.TheVariants.{New, Old, Dist, Tmp, Inst}
use Rattle.host_core.proofs.PathLaws.{IsEnding, leaves_room, suffix_is_path, text_is_path}

-- what such a path is

pub record Ships (p : Path) : Type 0 where
  pub path : is_path p ≡ true
  pub rooted : is_rooted p ≡ true
  pub few : length p ≤ 960
  pub room : list_all is_short (components p) ≡ true
  pub plain : has_reserved_suffix p ≡ false

not_false : (b : Bool) → not b ≡ true → b ≡ false
not_false true is = absurd (false≢true is)
not_false false is = refl

or_last : (a b : Bool) → a ≡ false → a || b ≡ true → b ≡ true
or_last true b no_first is = absurd (true≢false no_first)
or_last false b no_first is = is

pub ships : (p : Path) → is_ship_text p ≡ true → Ships p
ships p is =
    let text = and_parts (is_path_text p) (has_room p && (not (bytes_eq p (codes "/")) && (not (has_reserved_suffix p) && not (is_below_administration p)))) is in
    let fits = and_parts (has_room p) (not (bytes_eq p (codes "/")) && (not (has_reserved_suffix p) && not (is_below_administration p))) text.1 in
    let room = and_parts (nat_le (length p) 960) (list_all is_short (components p)) fits.0 in
    let below = and_parts (not (bytes_eq p (codes "/"))) (not (has_reserved_suffix p) && not (is_below_administration p)) fits.1 in
    let other = not_false (bytes_eq p (codes "/")) below.0 in
    record {
      path = text_is_path p text.0 other;
      rooted = or_last (bytes_eq p (codes "/")) (is_rooted p) other (and_parts (nat_le (length p) 1000) (bytes_eq p (codes "/") || is_rooted p) text.0).1;
      few = leb-true (length p) 960 room.0;
      room = room.1;
      plain = not_false (has_reserved_suffix p) (and_parts (not (has_reserved_suffix p)) (not (is_below_administration p)) below.1).0;
    }

-- the names beside it are paths

pub ending_of : (s : Suffix) → IsEnding (suffix_text s)
ending_of New = record { one = refl; long = omega arith; plain = refl }
ending_of Old = record { one = refl; long = omega arith; plain = refl }
ending_of Dist = record { one = refl; long = omega arith; plain = refl }
ending_of Tmp = record { one = refl; long = omega arith; plain = refl }
ending_of Inst = record { one = refl; long = omega arith; plain = refl }

suffix_few : (s : Suffix) → length (suffix_text s) ≤ 10
suffix_few New = omega arith
suffix_few Old = omega arith
suffix_few Dist = omega arith
suffix_few Tmp = omega arith
suffix_few Inst = omega arith

all_room : (s : Path) (l : List Path) → length s ≤ 10 → list_all is_short l ≡ true → list_all (leaves_room s) l ≡ true
all_room s [] few all = refl
all_room s (c ∷ l) few all =
    let parts = and_parts (is_short c) (list_all is_short l) all in
    let short : length c ≤ 245 = leb-true (length c) 245 parts.0 in
    both (leaves_room s c) (list_all (leaves_room s) l) (le-leb (length c + length s) 255 (omega arith)) (all_room s l few parts.1)
  where
    both : (x y : Bool) → x ≡ true → y ≡ true → x && y ≡ true
    both true y h k = k
    both false y h k = h

no_root : (p : Path) → is_rooted p ≡ true → p ≢ []
no_root [] is e = false≢true is
no_root (b ∷ p) is e = absurd (omega (arith, ap length e))

pub beside_is_path : (p : Path) (s : Suffix) → is_ship_text p ≡ true → is_path (p ++ suffix_text s) ≡ true
beside_is_path p s is =
    let shipped = ships p is in
    let few = suffix_few s in
    suffix_is_path p (suffix_text s) (ending_of s) shipped.path (no_root p shipped.rooted) (omega (arith, shipped.few, few)) (all_room (suffix_text s) (components p) few shipped.room)

-- a name tells its path and its ending

final : Path → ℕ → ℕ
final l k = get_or l (length l - (k + 1)) 0

final_is : (p s : Path) (j k : ℕ) → length s ≡ j + (k + 1) → final (p ++ s) k ≡ get_or s j 0
unfolding final
final_is p s j k long =
    let whole : length (p ++ s) ≡ length p + length s = length-append p s in
    let at : length (p ++ s) - (k + 1) ≡ length p + j = omega (arith, whole, long) in
    let less : length p + j - length p ≡ j = omega arith in
    ap (λ i. get_or (p ++ s) i 0) at ∙ get_or-append_right p s (length p) (length p + j) 0 refl (omega arith) ∙ ap (λ i. get_or s i 0) less

-- two endings of which one byte, so many from the last, differs
clash : (p r s t : Path) (i j k : ℕ) → length s ≡ i + (k + 1) → length t ≡ j + (k + 1) → get_or s i 0 ≢ get_or t j 0 → p ++ s ≢ r ++ t
clash p r s t i j k is are ne same = ne (sym (final_is p s i k is) ∙ ap (λ l. final l k) same ∙ final_is r t j k are)

pub same_name : (p r : Path) (s t : Suffix) → p ++ suffix_text s ≡ r ++ suffix_text t → (p ≡ r) × (s ≡ t)
same_name p r New New e = (append_cancel_right p r _ e, refl)
same_name p r Old Old e = (append_cancel_right p r _ e, refl)
same_name p r Dist Dist e = (append_cancel_right p r _ e, refl)
same_name p r Tmp Tmp e = (append_cancel_right p r _ e, refl)
same_name p r Inst Inst e = (append_cancel_right p r _ e, refl)
same_name p r New Old e = absurd (clash p r _ _ 8 8 0 refl refl (λ x. omega (arith, x)) e)
same_name p r New Dist e = absurd (clash p r _ _ 8 9 0 refl refl (λ x. omega (arith, x)) e)
same_name p r New Tmp e = absurd (clash p r _ _ 8 8 0 refl refl (λ x. omega (arith, x)) e)
same_name p r New Inst e = absurd (clash p r _ _ 8 9 0 refl refl (λ x. omega (arith, x)) e)
same_name p r Old New e = absurd (clash p r _ _ 8 8 0 refl refl (λ x. omega (arith, x)) e)
same_name p r Old Dist e = absurd (clash p r _ _ 8 9 0 refl refl (λ x. omega (arith, x)) e)
same_name p r Old Tmp e = absurd (clash p r _ _ 8 8 0 refl refl (λ x. omega (arith, x)) e)
same_name p r Old Inst e = absurd (clash p r _ _ 8 9 0 refl refl (λ x. omega (arith, x)) e)
same_name p r Dist New e = absurd (clash p r _ _ 9 8 0 refl refl (λ x. omega (arith, x)) e)
same_name p r Dist Old e = absurd (clash p r _ _ 9 8 0 refl refl (λ x. omega (arith, x)) e)
same_name p r Dist Tmp e = absurd (clash p r _ _ 9 8 0 refl refl (λ x. omega (arith, x)) e)
same_name p r Dist Inst e = absurd (clash p r _ _ 7 7 2 refl refl (λ x. omega (arith, x)) e)
same_name p r Tmp New e = absurd (clash p r _ _ 8 8 0 refl refl (λ x. omega (arith, x)) e)
same_name p r Tmp Old e = absurd (clash p r _ _ 8 8 0 refl refl (λ x. omega (arith, x)) e)
same_name p r Tmp Dist e = absurd (clash p r _ _ 8 9 0 refl refl (λ x. omega (arith, x)) e)
same_name p r Tmp Inst e = absurd (clash p r _ _ 8 9 0 refl refl (λ x. omega (arith, x)) e)
same_name p r Inst New e = absurd (clash p r _ _ 9 8 0 refl refl (λ x. omega (arith, x)) e)
same_name p r Inst Old e = absurd (clash p r _ _ 9 8 0 refl refl (λ x. omega (arith, x)) e)
same_name p r Inst Dist e = absurd (clash p r _ _ 7 7 2 refl refl (λ x. omega (arith, x)) e)
same_name p r Inst Tmp e = absurd (clash p r _ _ 9 8 0 refl refl (λ x. omega (arith, x)) e)

-- no shipped path is a name beside another

ends_beside : (p s : Path) → ends_with nat_eq (p ++ s) s ≡ true
ends_beside p s =
    let n : length (p ++ s) - length s ≡ length p = omega (arith, length-append p s) in
    (bytes_eq-Decides s (drop (length (p ++ s) - length s) (p ++ s))).1 (sym (ap (λ k. drop k (p ++ s)) n ∙ drop-append_seam p s))

neither : (a b : Bool) → a || b ≡ false → (a ≡ false) × (b ≡ false)
neither true b is = absurd (true≢false is)
neither false b is = (refl, is)

ends_not : (p : Path) (s : Suffix) → has_reserved_suffix p ≡ false → ends_with nat_eq p (suffix_text s) ≡ false
ends_not p New plain = (neither (ends_with nat_eq p (codes ".dpkg-new")) _ plain).0
ends_not p Old plain = (neither (ends_with nat_eq p (codes ".dpkg-old")) _ (neither (ends_with nat_eq p (codes ".dpkg-new")) _ plain).1).0
ends_not p Dist plain = (neither (ends_with nat_eq p (codes ".dpkg-dist")) _ (neither (ends_with nat_eq p (codes ".dpkg-old")) _ (neither (ends_with nat_eq p (codes ".dpkg-new")) _ plain).1).1).0
ends_not p Tmp plain = (neither (ends_with nat_eq p (codes ".dpkg-tmp")) _ (neither (ends_with nat_eq p (codes ".dpkg-dist")) _ (neither (ends_with nat_eq p (codes ".dpkg-old")) _ (neither (ends_with nat_eq p (codes ".dpkg-new")) _ plain).1).1).1).0
ends_not p Inst plain = (neither (ends_with nat_eq p (codes ".dpkg-inst")) _ (neither (ends_with nat_eq p (codes ".dpkg-tmp")) _ (neither (ends_with nat_eq p (codes ".dpkg-dist")) _ (neither (ends_with nat_eq p (codes ".dpkg-old")) _ (neither (ends_with nat_eq p (codes ".dpkg-new")) _ plain).1).1).1).1).0

pub plain_other : (p r : Path) (s : Suffix) → has_reserved_suffix p ≡ false → p ≢ r ++ suffix_text s
plain_other p r s plain e = true≢false (sym (ap (λ l. ends_with nat_eq l (suffix_text s)) e ∙ ends_beside r (suffix_text s)) ∙ ends_not p s plain)

-- of these names only those of files that are being written are temporary

pub plain_proper : (p : Path) → has_reserved_suffix p ≡ false → is_temporary p ≡ false
plain_proper p plain = ends_not p Inst plain

front_of : (p s : Path) → ends_with nat_eq p s ≡ true → (front : Path) × (p ≡ front ++ s)
front_of p s is =
    let k = length p - length s in
    (take k p, sym (take-append-drop k p) ∙ ap (λ (l : Path). take k p ++ l) (sym ((bytes_eq-Decides s (drop k p)).0 is)))

pub beside_proper : (p : Path) (s : Suffix) → s ≢ Inst → is_temporary (p ++ suffix_text s) ≡ false
beside_proper p s other = false_from_ne_true _ (λ is.
    let front = front_of (p ++ suffix_text s) (suffix_text Inst) is in
    other (same_name p front.0 s Inst front.1).1)

-- a directory holds it, where something stands there or beside it

abbrev has_slash : Path → Bool
has_slash p = list_any (nat_eq 47) p

record Splits (p : Path) : Type 0 where
  front : Path
  name : Path
  is : p ≡ front ++ 47 ∷ name
  plain : has_slash name ≡ false

last_slash : (p : Path) → (has_slash p ≡ false) ⊎ Splits p
last_slash [] = inl refl
last_slash (b ∷ p) = at (last_slash p) (nat_eq 47 b) refl
  where
    at : (has_slash p ≡ false) ⊎ Splits p → (t : Bool) → nat_eq 47 b ≡ t → (has_slash (b ∷ p) ≡ false) ⊎ Splits (b ∷ p)
    at (inr later) t is = inr record { front = b ∷ later.front; name = later.name; is = ap (λ (l : Path). b ∷ l) later.is; plain = later.plain }
    at (inl free) true is = inr record { front = []; name = p; is = ap (λ c. c ∷ p) (sym (eqb-true 47 b is)); plain = free }
    at (inl free) false is = inl (ap (λ t. t || has_slash p) is ∙ free)

rooted_splits : (p : Path) → is_rooted p ≡ true → Splits p
rooted_splits [] is = absurd (false≢true is)
rooted_splits (b ∷ p) is = elim (last_slash (b ∷ p)) [
  | inl free ↦
      let slash : b ≡ 47 = eqb-true b 47 (and_parts (nat_eq b 47) _ is).0 in
      absurd (true≢false (sym (ap (λ c. nat_eq 47 c || has_slash p) slash) ∙ free))
  | inr splits ↦ splits
]

no_slash : (p : Path) → has_slash p ≡ false → Contains p 47 → ⊥
no_slash p free has = true≢false (sym (list_any-from_Contains nat_eq_equiv 47 p has) ∙ free)

slash_free : (s : Suffix) → has_slash (suffix_text s) ≡ false
slash_free New = refl
slash_free Old = refl
slash_free Dist = refl
slash_free Tmp = refl
slash_free Inst = refl

in_both : (a b : Path) → has_slash a ≡ false → has_slash b ≡ false → has_slash (a ++ b) ≡ false
in_both [] b none_a none_b = none_b
in_both (x ∷ a) b none_a none_b =
    let parts = neither (nat_eq 47 x) (has_slash a) none_a in
    ap (λ t. t || has_slash (a ++ b)) parts.0 ∙ in_both a b parts.1 none_b

parent_by : (w : World) (p s t : Path) → IsTree w → is_rooted p ≡ true → has_slash t ≡ false → IsSome (w (p ++ s)) → HasParent w (p ++ t)
parent_by w p s t tree rooted free stands =
    let parts = rooted_splits p rooted in
    let below : p ++ s ≡ parts.front ++ 47 ∷ (parts.name ++ s) = ap (λ (l : Path). l ++ s) parts.is ∙ append_assoc parts.front (47 ∷ parts.name) s in
    let beside : p ++ t ≡ parts.front ++ 47 ∷ (parts.name ++ t) = ap (λ (l : Path). l ++ t) parts.is ∙ append_assoc parts.front (47 ∷ parts.name) t in
    (parts.front, parts.name ++ t, beside, no_slash (parts.name ++ t) (in_both parts.name t parts.plain free), tree parts.front (parts.name ++ s) (subst (λ q. IsSome (w q)) below stands))

pub parent_home_of : (w : World) (p : Path) (s : Suffix) → IsTree w → is_ship_text p ≡ true → IsSome (w (p ++ suffix_text s)) → HasParent w p
parent_home_of w p s tree is stands = subst (HasParent w) (append-nil p) (parent_by w p (suffix_text s) [] tree (ships p is).rooted refl stands)

pub parent_beside_home : (w : World) (p : Path) (t : Suffix) → IsTree w → is_ship_text p ≡ true → IsSome (w p) → HasParent w (p ++ suffix_text t)
parent_beside_home w p t tree is stands = parent_by w p [] (suffix_text t) tree (ships p is).rooted (slash_free t) (subst (λ q. IsSome (w q)) (sym (append-nil p)) stands)

pub parent_beside : (w : World) (p : Path) (s t : Suffix) → IsTree w → is_ship_text p ≡ true → IsSome (w (p ++ suffix_text s)) → HasParent w (p ++ suffix_text t)
parent_beside w p s t tree is stands = parent_by w p (suffix_text s) (suffix_text t) tree (ships p is).rooted (slash_free t) stands
