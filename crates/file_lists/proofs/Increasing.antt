-- Texts in the order of their bytes.
use Rattle.std.proofs.Common.{◌≡◌, ◌⊎◌, ◌+◌, ◌-◌, ◌<◌, ◌↔◌, inl, inr, ℕ, zero, suc, Bool, true, false, cond, List, [], ◌∷◌, ◌++◌, take, length, get_or, refl, sym, ap, subst, ◌∙◌, arith, Contains}
use Rattle.std.specs.List.{AllByRecursion}
use Rattle.std.specs.Str.{bytes_eq}
use Rattle.std.proofs.lemmas.Bool.{false≢true}
use Rattle.std.specs.Ordering.{nat_cmp, is_lt}
use Rattle.std.specs.Cmp.Lexicographic.{slice_cmp}
use Rattle.std.specs.declared.cmp.Ordering.{Ordering}
use Rattle.std.specs.declared.cmp.Ordering.TheVariants.{Less, Equal, Greater}
use Rattle.std.proofs.lemmas.Cmp.{tied_itself, nat_list_cmp_total}
use Rattle.std.proofs.lemmas.List.{take_more}
use Rattle.std.proofs.lemmas.List.Elements.{Contains-append_left, Contains-append_right, Contains-append_cases}
use Rattle.std.proofs.lemmas.Slice.Eq.{bytes_eq-Decides}
use Rattle.host_core.specs.Paths.{Path}
use Rattle.file_lists.specs.Increasing.{IsBefore, AreIncreasing}

pub not_before_itself : (p : Path) → IsBefore p p → ⊥
not_before_itself p e = let o : Less ≡ Equal = sym e ∙ tied_itself nat_list_cmp_total p in absurd cc

pub still_left : (b x : Bool) → cond b false x ≡ true → x ≡ true
still_left true x e = absurd (false≢true e)
still_left false x e = e

-- an entry that is still to be looked at is this one, or is left
pub this_or_left : (name q : Path) (todo rest : Path → Bool) → ((q : Path) → rest q ≡ cond (bytes_eq name q) false (todo q)) → todo q ≡ true → (name ≡ q) ⊎ (rest q ≡ true)
this_or_left name q todo rest less t = at (bytes_eq name q) refl
  where
    at : (b : Bool) → bytes_eq name q ≡ b → (name ≡ q) ⊎ (rest q ≡ true)
    at true e = inl ((bytes_eq-Decides name q).0 e)
    at false e = inr (less q ∙ ap (λ b. cond b false (todo q)) e ∙ t)

-- within a list the default doesn't matter
pub get_or_any : {X : Type 0} (xs : List X) (i : ℕ) (d e : X) → i < length xs → get_or xs i d ≡ get_or xs i e
get_or_any [] i d e lt = absurd (omega (arith, lt))
get_or_any (x ∷ xs) zero d e lt = refl
get_or_any (x ∷ xs) (suc i) d e lt = get_or_any xs i d e (omega (arith, lt))

pub all_at : {X : Type 0} (P : X → Type 0) (xs : List X) (i : ℕ) (d : X) → AllByRecursion P xs → i < length xs → P (get_or xs i d)
all_at P [] i d all lt = absurd (omega (arith, lt))
all_at P (x ∷ xs) zero d all lt = all.0
all_at P (x ∷ xs) (suc i) d all lt = all_at P xs i d all.1 (omega (arith, lt))

pub all_from : {X : Type 0} (P : X → Type 0) (xs : List X) → ((x : X) → Contains xs x → P x) → AllByRecursion P xs
all_from P [] each = tt
all_from P (x ∷ xs) each = (each x (0, omega arith, refl), all_from P xs (λ y has. each y (suc has.0, omega (arith, has.1), has.2)))

-- one more, which is behind all
pub increasing_more : (xs : List Path) (y : Path) → AreIncreasing xs → AllByRecursion (λ x. IsBefore x y) xs → AreIncreasing (xs ++ y ∷ [])
increasing_more [] y order below = (tt, tt)
increasing_more (x ∷ xs) y order below = (behind xs order.0, increasing_more xs y order.1 below.1)
  where
    behind : (zs : List Path) → AllByRecursion (λ z. IsBefore x z) zs → AllByRecursion (λ z. IsBefore x z) (zs ++ y ∷ [])
    behind [] all = (below.0, tt)
    behind (z ∷ zs) all = (all.0, behind zs all.1)

-- all are before what the last is before
below_last : (xs : List Path) (z y : Path) → AreIncreasing (xs ++ z ∷ []) → IsBefore z y → AllByRecursion (λ x. IsBefore x y) (xs ++ z ∷ [])
below_last [] z y order less = (less, tt)
below_last (x ∷ xs) z y order less = (nat_list_cmp_total.trans x z y (last xs order.0) less, below_last xs z y order.1 less)
  where
    last : (zs : List Path) → AllByRecursion (λ a. IsBefore x a) (zs ++ z ∷ []) → IsBefore x z
    last [] all = all.0
    last (a ∷ zs) all = last zs all.1

pub increasing_first : (xs : List Path) → AreIncreasing (take 1 xs)
increasing_first [] = tt
increasing_first (x ∷ xs) = (tt, tt)

-- the next is behind the last
pub increasing_next : (xs : List Path) (i : ℕ) → i + 1 < length xs → AreIncreasing (take (i + 1) xs) → IsBefore (get_or xs i []) (get_or xs (i + 1) []) → AreIncreasing (take (i + 1 + 1) xs)
increasing_next xs i lt order less =
    let last : take (i + 1) xs ≡ take i xs ++ get_or xs i [] ∷ [] = take_more xs i [] (omega (arith, lt)) in
    let so_far = subst AreIncreasing last order in
    let grown = increasing_more (take i xs ++ get_or xs i [] ∷ []) (get_or xs (i + 1) []) so_far (below_last (take i xs) (get_or xs i []) (get_or xs (i + 1) []) so_far less) in
    subst AreIncreasing (ap (λ (l : List Path). l ++ get_or xs (i + 1) [] ∷ []) (sym last) ∙ sym (take_more xs (i + 1) [] lt)) grown

-- an earlier one is before a later one
pub increasing_at : (xs : List Path) (i j : ℕ) → AreIncreasing xs → i < j → j < length xs → IsBefore (get_or xs i []) (get_or xs j [])
increasing_at [] i j order less lt = absurd (omega (arith, lt))
increasing_at (x ∷ xs) i zero order less lt = absurd (omega (arith, less))
increasing_at (x ∷ xs) zero (suc j) order less lt = all_at (λ y. IsBefore x y) xs j [] order.0 (omega (arith, lt))
increasing_at (x ∷ xs) (suc i) (suc j) order less lt = increasing_at xs i j order.1 (omega (arith, less)) (omega (arith, lt))

-- The texts of a set are taken out in order: these so far, and others that are left.
pub record IsDrawn (all left : Path → Bool) (drawn : List Path) : Type 0 where
  pub order : AreIncreasing drawn
  pub before : (a b : Path) → Contains drawn a → left b ≡ true → IsBefore a b
  pub from : (q : Path) → Contains drawn q → all q ≡ true
  pub less : (q : Path) → left q ≡ true → all q ≡ true
  pub whole : (q : Path) → all q ≡ true → Contains drawn q ⊎ (left q ≡ true)

none_in : (q : Path) → Contains [] q → ⊥
none_in q has = omega (arith, has.1)

pub drawn_start : (all : Path → Bool) → IsDrawn all all []
drawn_start all = record {
  order = tt;
  before = λ a b has e. absurd (none_in a has);
  from = λ q has. absurd (none_in q has);
  less = λ q e. e;
  whole = λ q e. inr e;
}

only : (name q : Path) → Contains (name ∷ []) q → name ≡ q
only name q (zero, lt, is) = is
only name q (suc i, lt, is) = absurd (omega (arith, lt))

pub drawn_more : (all left rest : Path → Bool) (drawn : List Path) (name : Path) → IsDrawn all left drawn → left name ≡ true → ((q : Path) → rest q ≡ cond (bytes_eq name q) false (left q)) → ((q : Path) → rest q ≡ true → IsBefore name q) → IsDrawn all rest (drawn ++ name ∷ [])
drawn_more all left rest drawn name is here fewer above = record {
  order = increasing_more drawn name is.order (all_from (λ x. IsBefore x name) drawn (λ x has. is.before x name has here));
  before = λ a b has e. elim (Contains-append_cases drawn (name ∷ []) a has) [
    | inl h ↦ is.before a b h (among b e)
    | inr h ↦ subst (λ x. IsBefore x b) (only name a h) (above b e)
  ];
  from = λ q has. elim (Contains-append_cases drawn (name ∷ []) q has) [
    | inl h ↦ is.from q h
    | inr h ↦ subst (λ x. all x ≡ true) (only name q h) (is.less name here)
  ];
  less = λ q e. is.less q (among q e);
  whole = λ q e. elim (is.whole q e) [
    | inl h ↦ inl (Contains-append_left drawn (name ∷ []) q h)
    | inr l ↦ elim (this_or_left name q left rest fewer l) [
      | inl s ↦ inl (Contains-append_right drawn (name ∷ []) q (0, omega arith, s))
      | inr r ↦ inr r
    ]
  ];
}
  where
    among : (q : Path) → rest q ≡ true → left q ≡ true
    among q e = still_left (bytes_eq name q) (left q) (sym (fewer q) ∙ e)

-- none is left
pub drawn_all : (all left : Path → Bool) (drawn : List Path) → IsDrawn all left drawn → ((q : Path) → left q ≡ false) → (q : Path) → Contains drawn q ↔ (all q ≡ true)
drawn_all all left drawn is none q = (is.from q, λ e. elim (is.whole q e) [ inl h ↦ h | inr l ↦ absurd (false≢true (sym (none q) ∙ l)) ])

-- the same where a comparison told it
pub increasing_after : (xs : List Path) (j : ℕ) (x y : Path) → j < length xs → 0 < j → AreIncreasing (take j xs) → x ≡ get_or xs (j - 1) x → y ≡ get_or xs j y → is_lt (slice_cmp nat_cmp x y) ≡ true → AreIncreasing (take (j + 1) xs)
increasing_after xs j x y lt some order is_x is_y less =
    let next : j - 1 + 1 ≡ j = omega (arith, some) in
    let here : j - 1 + 1 < length xs = omega (arith, some, lt) in
    let first = is_x ∙ get_or_any xs (j - 1) x [] (omega (arith, some, lt)) in
    let second = is_y ∙ get_or_any xs j y [] lt in
    let before = subst (λ (p : Path). IsBefore p (get_or xs j [])) first (subst (IsBefore x) second (told (slice_cmp nat_cmp x y) less)) in
    subst (λ (k : ℕ). AreIncreasing (take (k + 1) xs)) next (increasing_next xs (j - 1) here (subst (λ (k : ℕ). AreIncreasing (take k xs)) (sym next) order) (subst (λ (k : ℕ). IsBefore (get_or xs (j - 1) []) (get_or xs k [])) (sym next) before))
  where
    told : (o : Ordering) → is_lt o ≡ true → o ≡ Less
    told Less is = refl
    told Equal is = absurd (false≢true is)
    told Greater is = absurd (false≢true is)
