-- Paths that stand once.
use Rattle.std.proofs.Common.{◌≡◌, ℕ, zero, suc, ◌+◌, ◌<◌, ◌≤◌, Bool, true, false, not, ◌&&◌, ◌||◌, List, [], ◌∷◌, ◌++◌, length, map, take, get_or, Option, Some, refl, sym, ap, subst, ◌∙◌, arith}
use Rattle.std.specs.Prelude.{MatchOption}
use Rattle.std.specs.List.{list_any, list_all}
use Rattle.std.specs.Str.{bytes_eq}
use Rattle.std.proofs.lemmas.Bool.{false≢true, and_parts, and_from, or_from, or_parts, not-true}
use Rattle.std.proofs.lemmas.List.{take_more, take_all, map-append}
use Rattle.std.proofs.lemmas.List.Folds.{list_any-append, list_all_more, list_all_at}
use Rattle.std.proofs.lemmas.Slice.Eq.{bytes_eq-Decides}
use Rattle.status_records.specs.ConffileFields.{are_apart}
use Rattle.status_records.proofs.Kept.{swapped}

-- one path more

pub apart_push : (ts : List (List ℕ)) (t : List ℕ) → are_apart ts ≡ true → list_any (bytes_eq t) ts ≡ false → are_apart (ts ++ t ∷ []) ≡ true
apart_push [] t apart new = refl
apart_push (s ∷ ts) t apart new =
    let parts = and_parts (not (list_any (bytes_eq s) ts)) (are_apart ts) apart in
    let others = or_parts (bytes_eq t s) (list_any (bytes_eq t) ts) new in
    let here : list_any (bytes_eq s) (ts ++ t ∷ []) ≡ false =
    list_any-append (bytes_eq s) ts (t ∷ []) ∙ or_from (list_any (bytes_eq s) ts) (bytes_eq s t || false) (not-true (list_any (bytes_eq s) ts) parts.0) (or_from (bytes_eq s t) false (swapped t s others.0) refl) in
    and_from (not (list_any (bytes_eq s) (ts ++ t ∷ []))) (are_apart (ts ++ t ∷ [])) (ap not here) (apart_push ts t parts.1 others.1)

pub mapped_more : {X : Type 0} (f : X → List ℕ) (xs : List X) (i : ℕ) (x : X) → i < length xs → x ≡ get_or xs i x → map f (take (i + 1) xs) ≡ map f (take i xs) ++ f x ∷ []
mapped_more {X = X} f xs i x lt is = ap (map f) (take_more xs i x lt) ∙ map-append f (take i xs) (get_or xs i x ∷ []) ∙ ap (λ (y : X). map f (take i xs) ++ f y ∷ []) (sym is)

-- one that stood before

any_there : {X : Type 0} (f : X → List ℕ) (xs : List X) (i : ℕ) (d : X) (t : List ℕ) → i < length xs → t ≡ f (get_or xs i d) → list_any (bytes_eq t) (map f xs) ≡ true
any_there f [] i d t lt is = absurd (omega arith)
any_there f (x ∷ xs) zero d t lt is = ap (λ b. b || list_any (bytes_eq t) (map f xs)) ((bytes_eq-Decides t (f x)).1 is)
any_there f (x ∷ xs) (suc i) d t lt is = by (bytes_eq t (f x)) (any_there f xs i d t (omega arith) is)
  where
    by : (b : Bool) → list_any (bytes_eq t) (map f xs) ≡ true → b || list_any (bytes_eq t) (map f xs) ≡ true
    by true e = refl
    by false e = e

and_last : (b c : Bool) → c ≡ false → b && c ≡ false
and_last true c e = e
and_last false c e = refl

pub twice : {X : Type 0} (f : X → List ℕ) (xs : List X) (i : ℕ) (d : X) (t : List ℕ) → i < length xs → t ≡ f (get_or xs i d) → list_any (bytes_eq t) (map f (take i xs)) ≡ true → are_apart (map f xs) ≡ false
twice f [] i d t lt is before = absurd (omega arith)
twice f (x ∷ xs) zero d t lt is before = absurd (false≢true before)
twice f (x ∷ xs) (suc i) d t lt is before = by (bytes_eq t (f x)) refl before (twice f xs i d t (omega arith) is)
  where
    there : bytes_eq t (f x) ≡ true → list_any (bytes_eq (f x)) (map f xs) ≡ true
    there e = any_there f xs i d (f x) (omega arith) (sym ((bytes_eq-Decides t (f x)).0 e) ∙ is)

    by : (b : Bool) → bytes_eq t (f x) ≡ b → b || list_any (bytes_eq t) (map f (take i xs)) ≡ true → (list_any (bytes_eq t) (map f (take i xs)) ≡ true → are_apart (map f xs) ≡ false) → not (list_any (bytes_eq (f x)) (map f xs)) && are_apart (map f xs) ≡ false
    by true e before rest = ap (λ b. not b && are_apart (map f xs)) (there e)
    by false e before rest = and_last (not (list_any (bytes_eq (f x)) (map f xs))) (are_apart (map f xs)) (rest before)

-- what a test for a new path told

pub known : (before new : Bool) → new ≡ not before → new ≡ false → before ≡ true
known true new is e = refl
known false new is e = absurd (false≢true (sym e ∙ is))

pub unknown : (before new : Bool) → new ≡ not before → new ≡ true → before ≡ false
unknown true new is e = absurd (false≢true (sym is ∙ e))
unknown false new is e = refl

-- what was read, where something was
pub some_read : {X : Type 0} (o : Option X) (x : X) (good : Bool) (Q : X → Type 0) → o ≡ Some x → MatchOption o (good ≡ false) (λ y. (good ≡ true) × Q y) → (good ≡ true) × Q x
some_read {X = X} o x good Q is read = subst (λ (p : Option X). MatchOption p (good ≡ false) (λ y. (good ≡ true) × Q y)) is read

-- the steps of a loop that reads lines and looks for a path that stood before

abbrev pub AreReadTo : (List ℕ → Bool) → (List ℕ → List ℕ) → List (List ℕ) → List (List ℕ) → Type 0
AreReadTo test path_in lines seen = (list_all test lines ≡ true) × (seen ≡ map path_in lines) × (are_apart seen ≡ true)

pub read_more : (test : List ℕ → Bool) (path_in : List ℕ → List ℕ) (lines : List (List ℕ)) (i : ℕ) (line path : List ℕ) (seen next : List (List ℕ)) → i < length lines → line ≡ get_or lines i line → test line ≡ true → path ≡ path_in line
    → list_any (bytes_eq path) seen ≡ false → next ≡ seen ++ path ∷ [] → AreReadTo test path_in (take i lines) seen → AreReadTo test path_in (take (i + 1) lines) next
read_more test path_in lines i line path seen next lt is good said new more so_far = (
  list_all_more test lines i line lt ∙ and_from (list_all test (take i lines)) (test (get_or lines i line)) so_far.0 (ap test (sym is) ∙ good),
  more ∙ ap (λ (l : List (List ℕ)). l ++ path ∷ []) so_far.1 ∙ ap (λ (p : List ℕ). map path_in (take i lines) ++ p ∷ []) said ∙ sym (mapped_more path_in lines i line lt is),
  ap are_apart more ∙ apart_push seen path so_far.2 new,
)

pub unread : (test : List ℕ → Bool) (path_in : List ℕ → List ℕ) (lines : List (List ℕ)) (i : ℕ) (line : List ℕ) → i < length lines → line ≡ get_or lines i line → test line ≡ false → false ≡ (list_all test lines && are_apart (map path_in lines))
unread test path_in lines i line lt is bad = sym (ap (λ b. b && are_apart (map path_in lines)) (list_all_at test lines i line lt (ap test (sym is) ∙ bad)))

pub stood : (test : List ℕ → Bool) (path_in : List ℕ → List ℕ) (lines : List (List ℕ)) (i : ℕ) (line path : List ℕ) (seen : List (List ℕ)) → i < length lines → line ≡ get_or lines i line → path ≡ path_in line → list_any (bytes_eq path) seen ≡ true → seen ≡ map path_in (take i lines)
    → false ≡ (list_all test lines && are_apart (map path_in lines))
stood test path_in lines i line path seen lt is said before so_far =
    sym (and_last (list_all test lines) (are_apart (map path_in lines)) (twice path_in lines i line path lt (said ∙ ap path_in is) (ap (list_any (bytes_eq path)) (sym so_far) ∙ before)))

pub read_whole : (test : List ℕ → Bool) (path_in : List ℕ → List ℕ) (lines : List (List ℕ)) (i : ℕ) (seen : List (List ℕ)) → length lines ≤ i → AreReadTo test path_in (take i lines) seen → true ≡ (list_all test lines && are_apart (map path_in lines))
read_whole test path_in lines i seen le so_far =
    let whole : take i lines ≡ lines = take_all i lines le in
    sym (and_from (list_all test lines) (are_apart (map path_in lines)) (ap (list_all test) (sym whole) ∙ so_far.0) (ap (λ l. are_apart (map path_in l)) (sym whole) ∙ ap are_apart (sym so_far.1) ∙ so_far.2))
