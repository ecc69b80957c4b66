-- What stands in path order, and what is put in its place there.
use Rattle.std.proofs.Common.{◌≡◌, ℕ, zero, suc, ◌<◌, ◌≤◌, Bool, true, false, cond, not, ◌&&◌, List, [], ◌∷◌, ◌++◌, length, map, take, drop, get_or, refl, sym, ap, subst, ◌∙◌, append_assoc, arith}
use Rattle.std.specs.List.{list_any, insert, AllByRecursion}
use Rattle.std.specs.Str.{bytes_eq}
use Rattle.std.specs.Cmp.Lexicographic.{slice_cmp}
use Rattle.std.specs.Ordering.{nat_cmp, is_lt, is_eq, ordering_reverse}
use Rattle.std.specs.declared.cmp.Ordering.{Ordering}
use Rattle.std.specs.declared.cmp.Ordering.TheVariants.{Less, Equal, Greater}
use Rattle.std.proofs.lemmas.Bool.{true≢false, false≢true, false_from_ne_true, or_from, or_parts}
use Rattle.std.proofs.lemmas.Cmp.{nat_list_cmp_total, tied_itself}
use Rattle.std.proofs.lemmas.List.{append-nil, map-append}
use Rattle.std.proofs.lemmas.Map.Text.{is_eq-slice_cmp}
use Rattle.std.proofs.lemmas.Slice.Eq.{bytes_eq-Decides}
use Rattle.host_core.specs.Paths.{Path}
use Rattle.status_records.specs.ConffilePaths.{is_before, AreInOrder, placed_by, all_placed_by, in_path_order}
use Rattle.status_records.specs.ConffileFields.{are_apart}

-- the order of two paths

is_less : (o : Ordering) → is_lt o ≡ true → o ≡ Less
is_less Less e = refl
is_less Equal e = absurd (false≢true e)
is_less Greater e = absurd (false≢true e)

pub before_then : (a b c : Path) → is_before a b ≡ true → is_before b c ≡ true → is_before a c ≡ true
before_then a b c first second = ap is_lt (nat_list_cmp_total.trans a b c (is_less _ first) (is_less _ second))

pub not_itself : (a : Path) → is_before a a ≡ true → ⊥
not_itself a e = false≢true (sym (ap is_lt (tied_itself nat_list_cmp_total a)) ∙ e)

pub before_apart : (a b : Path) → is_before a b ≡ true → bytes_eq a b ≡ false
before_apart a b e = false_from_ne_true (bytes_eq a b) (λ t. not_itself b (subst (λ (p : Path). is_before p b ≡ true) ((bytes_eq-Decides a b).0 t) e))

-- the one or the other is first
pub behind : (a b : Path) → is_before a b ≡ false → bytes_eq b a ≡ false → is_before b a ≡ true
behind a b e apart = by (slice_cmp nat_cmp a b) refl
  where
    by : (o : Ordering) → slice_cmp nat_cmp a b ≡ o → is_before b a ≡ true
    by Less is = absurd (false≢true (sym e ∙ ap is_lt is))
    by Equal is =
        let same : a ≡ b = (bytes_eq-Decides a b).0 (sym (is_eq-slice_cmp a b) ∙ ap is_eq is) in
        absurd (true≢false (sym ((bytes_eq-Decides b a).1 (sym same)) ∙ apart))
    by Greater is = ap is_lt (nat_list_cmp_total.antisymm b a ∙ ap ordering_reverse is)

-- what stands in order stands once

pub order_apart : (ps : List Path) → AreInOrder ps → are_apart ps ≡ true
order_apart [] order = refl
order_apart (p ∷ ps) order = ap (λ b. not b && are_apart ps) (none_same ps order.0) ∙ order_apart ps order.1
  where
    none_same : (qs : List Path) → AllByRecursion (λ q. is_before p q ≡ true) qs → list_any (bytes_eq p) qs ≡ false
    none_same [] all = refl
    none_same (q ∷ qs) all = or_from (bytes_eq p q) (list_any (bytes_eq p) qs) (before_apart p q all.0) (none_same qs all.1)

-- put in its place: behind all that is before it

pub placed_last : {X : Type 0} (path : X → Path) (x : X) (ys : List X) → AllByRecursion (λ y. is_before (path y) (path x) ≡ true) ys → placed_by path x ys ≡ ys ++ x ∷ []
placed_last path x [] all = refl
placed_last path x (y ∷ ys) all =
    ap (λ b. cond b (y ∷ placed_by path x ys) (x ∷ y ∷ ys)) all.0 ∙ ap (λ zs. y ∷ zs) (placed_last path x ys all.1)

before_at : (p : Path) (ps rest : List Path) (q : Path) → AllByRecursion (λ r. is_before p r ≡ true) (ps ++ q ∷ rest) → is_before p q ≡ true
before_at p [] rest q all = all.0
before_at p (r ∷ ps) rest q all = before_at p ps rest q all.1

all_before : {X : Type 0} (path : X → Path) (ys : List X) (x : X) (rest : List Path) → AreInOrder (map path ys ++ path x ∷ rest) → AllByRecursion (λ y. is_before (path y) (path x) ≡ true) ys
all_before path [] x rest order = tt
all_before path (y ∷ ys) x rest order = (before_at (path y) (map path ys) rest (path x) order.0, all_before path ys x rest order.1)

kept_from : {X : Type 0} (path : X → Path) (ys xs : List X) → AreInOrder (map path ys ++ map path xs) → all_placed_by path ys xs ≡ ys ++ xs
kept_from path ys [] order = sym (append-nil ys)
kept_from path ys (x ∷ xs) order =
    ap (λ zs. all_placed_by path zs xs) (placed_last path x ys (all_before path ys x (map path xs) order))
    ∙ kept_from path (ys ++ x ∷ []) xs
    (subst AreInOrder (sym (append_assoc (map path ys) (path x ∷ []) (map path xs)) ∙ ap (λ l. l ++ map path xs) (sym (map-append path ys (x ∷ [])))) order)
    ∙ append_assoc ys (x ∷ []) xs

-- what stands in order stays as it is
pub in_order_kept : {X : Type 0} (path : X → Path) (xs : List X) → AreInOrder (map path xs) → in_path_order path xs ≡ xs
in_order_kept path xs order = kept_from path [] xs order

-- what is put in its place stands in order

all_placed : {X : Type 0} (path : X → Path) (P : Path → Type 0) (x : X) (ys : List X) → P (path x) → AllByRecursion P (map path ys) → AllByRecursion P (map path (placed_by path x ys))
all_placed path P x [] here all = (here, tt)
all_placed path P x (y ∷ ys) here all = by (is_before (path y) (path x)) (all_placed path P x ys here all.1)
  where
    by : (b : Bool) → AllByRecursion P (map path (placed_by path x ys)) → AllByRecursion P (map path (cond b (y ∷ placed_by path x ys) (x ∷ y ∷ ys)))
    by true rest = (all.0, rest)
    by false rest = (here, all)

all_behind : (p q : Path) (ps : List Path) → is_before p q ≡ true → AllByRecursion (λ r. is_before q r ≡ true) ps → AllByRecursion (λ r. is_before p r ≡ true) ps
all_behind p q [] first all = tt
all_behind p q (r ∷ ps) first all = (before_then p q r first all.0, all_behind p q ps first all.1)

abbrev pub has_path : {X : Type 0} → (X → Path) → List X → Path → Bool
has_path path xs p = list_any (λ x. bytes_eq p (path x)) xs

pub order_placed : {X : Type 0} (path : X → Path) (x : X) (ys : List X) → AreInOrder (map path ys) → has_path path ys (path x) ≡ false → AreInOrder (map path (placed_by path x ys))
order_placed path x [] order new = (tt, tt)
order_placed path x (y ∷ ys) order new =
    let parts = or_parts (bytes_eq (path x) (path y)) (has_path path ys (path x)) new in
    by (is_before (path y) (path x)) refl parts.0 (order_placed path x ys order.1 parts.1)
  where
    by : (b : Bool) → is_before (path y) (path x) ≡ b → bytes_eq (path x) (path y) ≡ false → AreInOrder (map path (placed_by path x ys)) → AreInOrder (map path (cond b (y ∷ placed_by path x ys) (x ∷ y ∷ ys)))
    by true e other rest = (all_placed path (λ q. is_before (path y) q ≡ true) x ys e order.0, rest)
    by false e other rest =
        let first = behind (path y) (path x) e other in
        ((first, all_behind (path x) (path y) (map path ys) first order.0), order)

-- one more at the end

all_last : (P : Path → Type 0) (ps : List Path) (q : Path) → AllByRecursion P ps → P q → AllByRecursion P (ps ++ q ∷ [])
all_last P [] q all here = (here, tt)
all_last P (p ∷ ps) q all here = (all.0, all_last P ps q all.1 here)

pub order_last : {X : Type 0} (path : X → Path) (ys : List X) (x : X) → AreInOrder (map path ys) → AllByRecursion (λ y. is_before (path y) (path x) ≡ true) ys → AreInOrder (map path (ys ++ x ∷ []))
order_last path [] x order all = (tt, tt)
order_last path (y ∷ ys) x order all = (
  subst (AllByRecursion (λ q. is_before (path y) q ≡ true)) (sym (map-append path ys (x ∷ []))) (all_last (λ q. is_before (path y) q ≡ true) (map path ys) (path x) order.0 all.0),
  order_last path ys x order.1 all.1,
)

-- which paths stand there

pub has_placed : {X : Type 0} (path : X → Path) (x : X) (ys : List X) (p : Path) → bytes_eq p (path x) ≡ false → has_path path ys p ≡ false → has_path path (placed_by path x ys) p ≡ false
has_placed path x [] p other new = or_from (bytes_eq p (path x)) false other refl
has_placed path x (y ∷ ys) p other new =
    let parts = or_parts (bytes_eq p (path y)) (has_path path ys p) new in
    by (is_before (path y) (path x)) parts.0 (has_placed path x ys p other parts.1)
  where
    by : (b : Bool) → bytes_eq p (path y) ≡ false → has_path path (placed_by path x ys) p ≡ false → has_path path (cond b (y ∷ placed_by path x ys) (x ∷ y ∷ ys)) p ≡ false
    by true here rest = or_from (bytes_eq p (path y)) (has_path path (placed_by path x ys) p) here rest
    by false here rest = or_from (bytes_eq p (path x)) (has_path path (y ∷ ys) p) other new

-- in the words of another kind

pub placed_mapped : {X Y : Type 0} (f : X → Y) (path : Y → Path) (x : X) (ys : List X) → map f (placed_by (λ z. path (f z)) x ys) ≡ placed_by path (f x) (map f ys)
placed_mapped f path x [] = refl
placed_mapped f path x (y ∷ ys) = by (is_before (path (f y)) (path (f x))) (placed_mapped f path x ys)
  where
    by : (b : Bool) → map f (placed_by (λ z. path (f z)) x ys) ≡ placed_by path (f x) (map f ys) → map f (cond b (y ∷ placed_by (λ z. path (f z)) x ys) (x ∷ y ∷ ys)) ≡ cond b (f y ∷ placed_by path (f x) (map f ys)) (f x ∷ f y ∷ map f ys)
    by true rest = ap (λ zs. f y ∷ zs) rest
    by false rest = refl

-- where something is put in its place

pub placed_stop : {X : Type 0} (path : X → Path) (x : X) (xs : List X) (i : ℕ) (d : X) → i < length xs → is_before (path (get_or xs i d)) (path x) ≡ false → placed_by path x (drop i xs) ≡ x ∷ drop i xs
placed_stop path x [] i d lt e = absurd (omega (arith, lt))
placed_stop path x (y ∷ ys) zero d lt e = ap (λ b. cond b (y ∷ placed_by path x ys) (x ∷ y ∷ ys)) e
placed_stop path x (y ∷ ys) (suc i) d lt e = placed_stop path x ys i d (omega (arith, lt)) e

pub placed_end : {X : Type 0} (path : X → Path) (x : X) (xs : List X) (i : ℕ) → length xs ≤ i → placed_by path x (drop i xs) ≡ x ∷ drop i xs
placed_end path x [] zero le = refl
placed_end path x [] (suc i) le = refl
placed_end path x (y ∷ ys) zero le = absurd (omega (arith, le))
placed_end path x (y ∷ ys) (suc i) le = placed_end path x ys i (omega (arith, le))

pub placed_here : {X : Type 0} (path : X → Path) (x : X) (xs : List X) (i : ℕ) (y : X) (p : Path) → i < length xs → y ≡ get_or xs i y → is_before (path y) p ≡ false → path x ≡ p → placed_by path x xs ≡ take i xs ++ placed_by path x (drop i xs)
    → placed_by path x xs ≡ insert xs i x
placed_here path x xs i y p lt at after named so_far =
    so_far ∙ ap (λ l. take i xs ++ l) (placed_stop path x xs i y lt (ap (is_before (path (get_or xs i y))) named ∙ ap (λ z. is_before (path z) p) (sym at) ∙ after))

pub placed_behind : {X : Type 0} (path : X → Path) (x : X) (xs : List X) (i : ℕ) → length xs ≤ i → placed_by path x xs ≡ take i xs ++ placed_by path x (drop i xs) → placed_by path x xs ≡ insert xs i x
placed_behind path x xs i le so_far = so_far ∙ ap (λ l. take i xs ++ l) (placed_end path x xs i le)
