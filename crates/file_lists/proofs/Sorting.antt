-- Paths that are taken out of a set in order.
use Rattle.std.proofs.Common.{◌≡◌, ◌∙◌, ℕ, Bool, true, false, cond, List, [], ◌∷◌, ◌++◌, inl, inr, sym, ap, subst, refl, Contains}
use Rattle.std.specs.List.{list_any, AllByRecursion}
use Rattle.std.specs.Str.{bytes_eq}
use Rattle.std.proofs.lemmas.Bool.{true≢false}
use Rattle.std.specs.List.Sorted.{IsPermutation}
use Rattle.std.proofs.lemmas.List.Sorted.{IsPermutation-sym, Contains-permutation}
use Rattle.std.proofs.lemmas.Slice.Eq.{bytes_eq-Decides}
use Rattle.std.specs.Prelude.{codes, length, ◌||◌, ◌&&◌, nat_le}
use Rattle.host_core.specs.Paths.{Path, is_path_text, is_rooted, path_of, has_room}
use Rattle.file_lists.specs.Lists.{root_line, IsGood, paths_in}
use Rattle.file_lists.specs.Owners.{IsListable, AreListPaths, IsSameSet}
use Rattle.file_lists.proofs.Increasing.{all_at, all_from, IsDrawn, drawn_all}
use Rattle.file_lists.proofs.Entries.{any_contains, contains_any}

pub all_of : {X : Type 0} (P : X → Type 0) (xs : List X) (x : X) → AllByRecursion P xs → Contains xs x → P x
all_of P xs x all has = subst P has.2 (all_at P xs has.0 x all has.1)

-- a text of the set is one of the paths
pub drawn_is_listable : (paths : List Path) (all : Path → Bool) (q : Path) → AllByRecursion IsListable paths → ((q : Path) → all q ≡ list_any (bytes_eq q) paths) → all q ≡ true → IsListable q
drawn_is_listable paths all q ok told is = all_of IsListable paths q ok (any_contains paths q (sym (told q) ∙ is))

pub drawn_paths : (paths drawn : List Path) (all left : Path → Bool) → AllByRecursion IsListable paths → ((q : Path) → all q ≡ list_any (bytes_eq q) paths) → IsDrawn all left drawn → AreListPaths drawn
drawn_paths paths drawn all left ok told is = record {
  order = is.order;
  room = all_from IsListable drawn (λ q has. drawn_is_listable paths all q ok told (is.from q has));
}

pub drawn_same : (paths drawn : List Path) (all left : Path → Bool) → ((q : Path) → all q ≡ list_any (bytes_eq q) paths) → IsDrawn all left drawn → ((q : Path) → left q ≡ false) → IsSameSet paths drawn
drawn_same paths drawn all left told is none q =
    let drawn_is = drawn_all all left drawn is none q in
    (λ has. any_contains paths q (sym (told q) ∙ drawn_is.0 has), λ has. drawn_is.1 (told q ∙ contains_any paths q has))

-- what has the same paths as others in another order has the same as these
pub same_moved : (paths moved drawn : List Path) → IsPermutation paths moved → IsSameSet moved drawn → IsSameSet paths drawn
same_moved paths moved drawn moves same q =
    (λ has. Contains-permutation moved paths q (IsPermutation-sym paths moved moves) ((same q).0 has), λ has. (same q).1 (Contains-permutation paths moved q moves has))

-- The paths of good lines have room.

path_by : (line : List ℕ) (b : Bool) → bytes_eq line (codes "/") ≡ b → is_path_text line ≡ true → has_room line ≡ true → IsListable (cond b [] line)
path_by line true e text room = record { is = refl; room = refl }
path_by line false e text room = record {
  is = at (nat_le (length line) 1000) (bytes_eq line []) (is_rooted line) (ap (λ b. nat_le (length line) 1000 && (b || is_rooted line)) (sym e) ∙ text);
  room = room;
}
  where
    at : (a b c : Bool) → a && (false || c) ≡ true → a && (b || c) ≡ true
    at true true c is = refl
    at true false c is = is
    at false b c is = is

listable_line : (line : List ℕ) → IsGood line → (b : Bool) → bytes_eq line root_line ≡ b → AllByRecursion IsListable (cond b [] (path_of line ∷ []))
listable_line line good true e = tt
listable_line line good false e = elim good [
  | inl root ↦ absurd (true≢false (sym ((bytes_eq-Decides line root_line).1 root) ∙ e))
  | inr path ↦ (path_by line (bytes_eq line (codes "/")) refl path.2 path.1, tt)
]

pub listable : (lines : List (List ℕ)) → AllByRecursion IsGood lines → AllByRecursion IsListable (paths_in lines)
listable [] good = tt
listable (line ∷ lines) good = join (cond (bytes_eq line root_line) [] (path_of line ∷ [])) (listable_line line good.0 (bytes_eq line root_line) refl) (listable lines good.1)
  where
    join : (a : List Path) → AllByRecursion IsListable a → AllByRecursion IsListable (paths_in lines) → AllByRecursion IsListable (a ++ paths_in lines)
    join [] first rest = rest
    join (p ∷ a) first rest = (first.0, join a first.1 rest)
