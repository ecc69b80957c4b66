-- What a name in a directory and an ending of a name make of a path.
use Rattle.std.proofs.Common.{◌≡◌, ◌≢◌, ◌||◌, ◌&&◌, not, ℕ, ◌+◌, ◌<◌, ◌≤◌, Bool, true, false, List, [], ◌∷◌, ◌++◌, length, codes, nat_eq, refl, sym, ap, subst, ◌∙◌, arith}
use Rattle.std.specs.Prelude.{nat_le}
use Rattle.std.specs.List.{onto_first, list_any, list_all}
use Rattle.std.specs.Str.{bytes_eq}
use Rattle.std.proofs.lemmas.Bool.{false_from_ne_true, true≢false, false≢true, leb-true, le-leb}
use Rattle.std.proofs.lemmas.Slice.Eq.{bytes_eq-Decides}
use Rattle.std.proofs.lemmas.List.{length-append}
use Rattle.std.proofs.lemmas.List.Folds.{list_all-append, list_any-append}
use Rattle.std.proofs.lemmas.List.Splits.{length-slice_split, slice_split-cons_yes, slice_split-cons_no}
use Rattle.host_core.specs.Paths.{Path, components, has_break, is_component, is_rooted, is_path, is_path_text}

abbrev is_slash : ℕ → Bool
is_slash b = nat_eq b 47

left_of : (a b : Bool) → a && b ≡ true → a ≡ true
left_of true b is = refl
left_of false b is = absurd (false≢true is)

right_of : (a b : Bool) → a && b ≡ true → b ≡ true
right_of true b is = is
right_of false b is = absurd (false≢true is)

both : (a b : Bool) → a ≡ true → b ≡ true → a && b ≡ true
both true b first second = second
both false b first second = absurd (false≢true first)

neither : (a b : Bool) → a || b ≡ false → (a ≡ false) × (b ≡ false)
neither true b is = absurd (true≢false is)
neither false b is = (refl, is)

-- components

some_components : (a : Path) → components a ≡ [] → ⊥
some_components a none = absurd (omega (arith, length-slice_split is_slash a, ap length none))

onto_first-append : (x : ℕ) (l m : List Path) → (l ≡ [] → ⊥) → onto_first x (l ++ m) ≡ onto_first x l ++ m
onto_first-append x [] m some = absurd (some refl)
onto_first-append x (c ∷ l) m some = refl

pub components_child : (a b : Path) → components (a ++ 47 ∷ b) ≡ components a ++ components b
components_child [] b = slice_split-cons_yes is_slash 47 b refl
components_child (x ∷ a) b = at (components_child a b) (nat_eq x 47) refl
  where
    at : components (a ++ 47 ∷ b) ≡ components a ++ components b → (t : Bool) → nat_eq x 47 ≡ t → components (x ∷ (a ++ 47 ∷ b)) ≡ components (x ∷ a) ++ components b
    at rest true is = slice_split-cons_yes is_slash x (a ++ 47 ∷ b) is ∙ ap (λ (l : List Path). [] ∷ l) rest
        ∙ ap (λ (l : List Path). l ++ components b) (sym (slice_split-cons_yes is_slash x a is))
    at rest false is = slice_split-cons_no is_slash x (a ++ 47 ∷ b) is ∙ ap (onto_first x) rest ∙ onto_first-append x (components a) (components b) (some_components a)
        ∙ ap (λ (l : List Path). l ++ components b) (sym (slice_split-cons_no is_slash x a is))

-- a text without a slash is one component
pub one_component : (name : Path) → list_any is_slash name ≡ false → components name ≡ name ∷ []
one_component [] free = refl
one_component (x ∷ name) free =
    let parts = neither (is_slash x) (list_any is_slash name) free in
    slice_split-cons_no is_slash x name parts.0 ∙ ap (onto_first x) (one_component name parts.1)

-- the list with an ending added to its last part
abbrev append_last : List Path → Path → List Path
append_last [] s = []
append_last (c ∷ []) s = (c ++ s) ∷ []
append_last (c ∷ d ∷ l) s = c ∷ append_last (d ∷ l) s

last_cons : (c : Path) (l : List Path) (s : Path) → (l ≡ [] → ⊥) → append_last (c ∷ l) s ≡ c ∷ append_last l s
last_cons c [] s some = absurd (some refl)
last_cons c (d ∷ l) s some = refl

onto_last : (x : ℕ) (l : List Path) (s : Path) → (l ≡ [] → ⊥) → onto_first x (append_last l s) ≡ append_last (onto_first x l) s
onto_last x [] s some = absurd (some refl)
onto_last x (c ∷ []) s some = refl
onto_last x (c ∷ d ∷ l) s some = refl

pub components_suffix : (a s : Path) → components s ≡ s ∷ [] → components (a ++ s) ≡ append_last (components a) s
components_suffix [] s one = one
components_suffix (x ∷ a) s one = at (components_suffix a s one) (nat_eq x 47) refl
  where
    at : components (a ++ s) ≡ append_last (components a) s → (t : Bool) → nat_eq x 47 ≡ t → components (x ∷ (a ++ s)) ≡ append_last (components (x ∷ a)) s
    at rest true is = slice_split-cons_yes is_slash x (a ++ s) is ∙ ap (λ (l : List Path). [] ∷ l) rest
        ∙ sym (last_cons [] (components a) s (some_components a)) ∙ ap (λ (l : List Path). append_last l s) (sym (slice_split-cons_yes is_slash x a is))
    at rest false is = slice_split-cons_no is_slash x (a ++ s) is ∙ ap (onto_first x) rest ∙ onto_last x (components a) s (some_components a)
        ∙ ap (λ (l : List Path). append_last l s) (sym (slice_split-cons_no is_slash x a is))

-- a name in a directory

rooted_of : (p : Path) → is_path p ≡ true → bytes_eq p [] ≡ false → is_rooted p ≡ true
rooted_of p is other = subst (λ b. b || is_rooted p ≡ true) other (right_of (nat_le (length p) 1000) (bytes_eq p [] || is_rooted p) is)

path_by : (p : Path) → length p ≤ 1000 → is_rooted p ≡ true → is_path p ≡ true
path_by p few is = both (nat_le (length p) 1000) (bytes_eq p [] || is_rooted p) (le-leb (length p) 1000 few) (or_last (bytes_eq p []) (is_rooted p) is)
  where
    or_last : (a b : Bool) → b ≡ true → a || b ≡ true
    or_last true b is = refl
    or_last false b is = is

one_more : (r name : Path) → list_all is_component (components r) ≡ true → is_component name ≡ true → list_any is_slash name ≡ false → list_all is_component (components (r ++ 47 ∷ name)) ≡ true
one_more r name all part free =
    ap (list_all is_component) (components_child r name ∙ ap (λ (l : List Path). components r ++ l) (one_component name free)) ∙ list_all-append is_component (components r) (name ∷ [])
    ∙ both (list_all is_component (components r)) (is_component name && true) all (both (is_component name) true part refl)

pub child_is_path : (p name : Path) → is_path p ≡ true → is_component name ≡ true → list_any is_slash name ≡ false → length p + length name < 1000 → is_path (p ++ 47 ∷ name) ≡ true
child_is_path [] name is part free room = path_by (47 ∷ name) (omega (arith, room)) (ap (list_all is_component) (one_component name free) ∙ both (is_component name) true part refl)
child_is_path (b ∷ r) name is part free room =
    let rooted = rooted_of (b ∷ r) is refl in
    path_by ((b ∷ r) ++ 47 ∷ name) (omega (arith, room, length-append (b ∷ r) (47 ∷ name)))
    (both (nat_eq b 47) (list_all is_component (components (r ++ 47 ∷ name))) (left_of (nat_eq b 47) (list_all is_component (components r)) rooted)
    (one_more r name (right_of (nat_eq b 47) (list_all is_component (components r)) rooted) part free))

-- an ending of a name: neither it nor what is left of 255 bytes is much
pub record IsEnding (s : Path) : Type 0 where
  pub one : components s ≡ s ∷ []
  pub long : 2 < length s
  pub plain : has_break s ≡ false

not_text : (t u : Path) → length u < length t → bytes_eq t u ≡ false
not_text t u less = false_from_ne_true (bytes_eq t u) (λ same. absurd (omega (arith, less, ap length ((bytes_eq-Decides t u).0 same))))

not_false : (b : Bool) → b ≡ false → not b ≡ true
not_false b is = ap not is

no_break_of : (c : Path) → is_component c ≡ true → has_break c ≡ false
no_break_of c is = flipped (has_break c) (left_of (not (has_break c)) (nat_le (length c) 255) (right_of (not (bytes_eq c (codes ".."))) _ (right_of (not (bytes_eq c (codes "."))) _ (right_of (not (bytes_eq c [])) _ is))))
  where
    flipped : (b : Bool) → not b ≡ true → b ≡ false
    flipped true is = absurd (false≢true is)
    flipped false is = refl

ending_component : (c s : Path) → IsEnding s → is_component c ≡ true → length c + length s ≤ 255 → is_component (c ++ s) ≡ true
ending_component c s ending is room =
    let n = length-append c s in
    both (not (bytes_eq (c ++ s) [])) _ (not_false _ (not_text (c ++ s) [] (omega (arith, n, ending.long))))
    (both (not (bytes_eq (c ++ s) (codes "."))) _ (not_false _ (not_text (c ++ s) (codes ".") (omega (arith, n, ending.long))))
    (both (not (bytes_eq (c ++ s) (codes ".."))) _ (not_false _ (not_text (c ++ s) (codes "..") (omega (arith, n, ending.long))))
    (both (not (has_break (c ++ s))) (nat_le (length (c ++ s)) 255)
    (not_false _ (list_any-append _ c s ∙ ap (λ b. b || has_break s) (no_break_of c is) ∙ ending.plain))
    (le-leb (length (c ++ s)) 255 (omega (arith, n, room))))))

-- each part of a path leaves room for the ending
abbrev pub leaves_room : Path → Path → Bool
leaves_room s c = nat_le (length c + length s) 255

all_suffixed : (l : List Path) (s : Path) → IsEnding s → list_all is_component l ≡ true → list_all (leaves_room s) l ≡ true → list_all is_component (append_last l s) ≡ true
all_suffixed [] s ending all room = refl
all_suffixed (c ∷ []) s ending all room =
    both (is_component (c ++ s)) true (ending_component c s ending (left_of (is_component c) true all) (leb-true (length c + length s) 255 (left_of (leaves_room s c) true room))) refl
all_suffixed (c ∷ d ∷ l) s ending all room =
    both (is_component c) (list_all is_component (append_last (d ∷ l) s)) (left_of (is_component c) (list_all is_component (d ∷ l)) all)
    (all_suffixed (d ∷ l) s ending (right_of (is_component c) (list_all is_component (d ∷ l)) all) (right_of (leaves_room s c) (list_all (leaves_room s) (d ∷ l)) room))

pub suffix_is_path : (p s : Path) → IsEnding s → is_path p ≡ true → p ≢ [] → length p + length s ≤ 1000 → list_all (leaves_room s) (components p) ≡ true → is_path (p ++ s) ≡ true
suffix_is_path [] s ending is some few room = absurd (some refl)
suffix_is_path (b ∷ r) s ending is some few room =
    let rooted = rooted_of (b ∷ r) is refl in
    let slash = left_of (nat_eq b 47) (list_all is_component (components r)) rooted in
    path_by ((b ∷ r) ++ s) (omega (arith, few, length-append (b ∷ r) s))
    (both (nat_eq b 47) (list_all is_component (components (r ++ s))) slash
    (ap (list_all is_component) (components_suffix r s ending.one)
    ∙ all_suffixed (components r) s ending (right_of (nat_eq b 47) (list_all is_component (components r)) rooted)
    (right_of (leaves_room s []) (list_all (leaves_room s) (components r)) (ap (list_all (leaves_room s)) (sym (slice_split-cons_yes is_slash b r slash)) ∙ room))))

-- the five endings of reserved names
pub ending_inst : IsEnding (codes ".dpkg-inst")
ending_inst = record { one = refl; long = omega arith; plain = refl }

-- what stands before a name is a path
pub front_is_path : (front name : Path) → is_path (front ++ 47 ∷ name) ≡ true → is_path front ≡ true
front_is_path [] name is = refl
front_is_path (b ∷ r) name is =
    let rooted = rooted_of (b ∷ (r ++ 47 ∷ name)) is refl in
    let few = leb-true (length (b ∷ (r ++ 47 ∷ name))) 1000 (left_of (nat_le (length (b ∷ (r ++ 47 ∷ name))) 1000) _ is) in
    let parts = right_of (nat_eq b 47) (list_all is_component (components (r ++ 47 ∷ name))) rooted in
    path_by (b ∷ r) (omega (arith, few, length-append r (47 ∷ name)))
    (both (nat_eq b 47) (list_all is_component (components r)) (left_of (nat_eq b 47) (list_all is_component (components (r ++ 47 ∷ name))) rooted)
    (left_of (list_all is_component (components r)) (list_all is_component (components name))
    (sym (list_all-append is_component (components r) (components name)) ∙ ap (list_all is_component) (sym (components_child r name)) ∙ parts)))

-- a text that names a path, but the root's
pub text_is_path : (t : Path) → is_path_text t ≡ true → bytes_eq t (codes "/") ≡ false → is_path t ≡ true
text_is_path t is other =
    path_by t (leb-true (length t) 1000 (left_of (nat_le (length t) 1000) (bytes_eq t (codes "/") || is_rooted t) is))
    (subst (λ b. b || is_rooted t ≡ true) other (right_of (nat_le (length t) 1000) (bytes_eq t (codes "/") || is_rooted t) is))
