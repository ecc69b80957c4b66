-- A list that was written is read back: it has just these paths.
use Rattle.std.proofs.Common.{◌≡◌, ◌↔◌, inl, inr, ℕ, ◌||◌, ◌&&◌, Bool, true, false, not, cond, List, [], ◌∷◌, ◌++◌, Some, length, map, nat_eq, codes, refl, sym, ap, subst, ◌∙◌, arith, append_assoc, Contains}
use Rattle.std.specs.Prelude.{nat_le}
use Rattle.std.specs.Str.{bytes_eq, IsUtf8}
use Rattle.std.specs.List.{list_any, list_all, onto_first, flat_map, AllByRecursion}
use Rattle.std.proofs.lemmas.Bool.{and_parts, eqb-true, false≢true, true≢false, false_from_ne_true, or_from, or_parts, ne_eqb}
use Rattle.std.proofs.lemmas.List.Splits.{slice_split-cons_yes, slice_split-cons_no}
use Rattle.std.proofs.lemmas.Slice.Eq.{bytes_eq-Decides}
use Rattle.std.proofs.lemmas.Str.{IsUtf8-from_ascii}
use Rattle.std.proofs.lemmas.Str.Ascii.{IsAscii-cons, IsAscii-nil}
use Rattle.host_core.specs.Paths.{Path, components, has_break, is_component, is_path, is_path_text, is_rooted, path_of}
use Rattle.diversions.specs.Lines.{lines_in}
use Rattle.diversions.proofs.WrittenTables.{line_read}
use Rattle.file_lists.specs.Lists.{IsGood, IsReadable, Lists, paths_in, root_line}
use Rattle.file_lists.specs.Owners.{IsListable}
use Rattle.file_lists.specs.Writing.{line_of, list_file, list_lines, list_text}
use Rattle.file_lists.proofs.WrittenLists.{list_ended}

-- a path has no newline

abbrev has_newline : List ℕ → Bool
has_newline line = list_any (λ b. nat_eq b 10) line

abbrev breaks : ℕ → Bool
breaks b = nat_eq b 10 || nat_eq b 0

no_break : (c : Path) → is_component c ≡ true → has_break c ≡ false
no_break c is =
    flipped (has_break c) (and_parts (not (has_break c)) _ (and_parts (not (bytes_eq c (codes ".."))) _ (and_parts (not (bytes_eq c (codes "."))) _ (and_parts (not (bytes_eq c [])) _ is).1).1).1).0
  where
    flipped : (b : Bool) → not b ≡ true → b ≡ false
    flipped true e = absurd (false≢true e)
    flipped false e = refl

part_plain : (l : List Path) → list_all is_component l ≡ true → list_all (λ c. not (has_newline c)) l ≡ true
part_plain [] all = refl
part_plain (c ∷ l) all =
    let parts = and_parts (is_component c) (list_all is_component l) all in
    ap (λ t. not t && list_all (λ d. not (has_newline d)) l) (newline_of c (no_break c parts.0)) ∙ part_plain l parts.1
  where
    newline_of : (x : Path) → has_break x ≡ false → has_newline x ≡ false
    newline_of [] none = refl
    newline_of (b ∷ x) none =
        let p = or_parts (breaks b) (has_break x) none in
        or_from (nat_eq b 10) (has_newline x) (or_parts (nat_eq b 10) (nat_eq b 0) p.0).0 (newline_of x p.1)

not_ten : (b : ℕ) → nat_eq b 47 ≡ true → nat_eq b 10 ≡ false
not_ten b slash = ne_eqb b 10 (λ e. let f : b ≡ 47 = eqb-true b 47 slash in omega (arith, e, f))

onto_plain : (b : ℕ) (l : List Path) → list_all (λ c. not (has_newline c)) (onto_first b l) ≡ true → (nat_eq b 10 ≡ false) × (list_all (λ c. not (has_newline c)) l ≡ true)
onto_plain b [] all = (unturned (nat_eq b 10) (and_parts (not (nat_eq b 10 || false)) true all).0, refl)
  where
    unturned : (t : Bool) → not (t || false) ≡ true → t ≡ false
    unturned true e = absurd (false≢true e)
    unturned false e = refl
onto_plain b (c ∷ l) all = at (nat_eq b 10) refl all
  where
    at : (t : Bool) → nat_eq b 10 ≡ t → not (t || has_newline c) && list_all (λ d. not (has_newline d)) l ≡ true → (t ≡ false) × (not (has_newline c) && list_all (λ d. not (has_newline d)) l ≡ true)
    at true is every = absurd (false≢true every)
    at false is every = (refl, every)

parts_plain : (p : Path) → list_all (λ c. not (has_newline c)) (components p) ≡ true → has_newline p ≡ false
parts_plain [] all = refl
parts_plain (b ∷ p) all = at (λ h. parts_plain p h) (nat_eq b 47) refl
  where
    at : (list_all (λ c. not (has_newline c)) (components p) ≡ true → has_newline p ≡ false) → (t : Bool) → nat_eq b 47 ≡ t → has_newline (b ∷ p) ≡ false
    at rest true slash =
        or_from (nat_eq b 10) (has_newline p) (not_ten b slash)
        (rest (sym (ap (list_all (λ c. not (has_newline c))) (slice_split-cons_yes (λ x. nat_eq x 47) b p slash)) ∙ all))
    at rest false other =
        let parts = onto_plain b (components p) (sym (ap (list_all (λ c. not (has_newline c))) (slice_split-cons_no (λ x. nat_eq x 47) b p other)) ∙ all) in
        or_from (nat_eq b 10) (has_newline p) parts.0 (rest parts.1)

rooted_plain : (p : Path) → is_rooted p ≡ true → has_newline p ≡ false
rooted_plain [] is = refl
rooted_plain (b ∷ p) is =
    let parts = and_parts (nat_eq b 47) (list_all is_component (components p)) is in
    or_from (nat_eq b 10) (has_newline p) (not_ten b parts.0) (parts_plain p (part_plain (components p) parts.1))

-- nor has its line; which names it, and isn't that of the root

rooted : (b : ℕ) (r : Path) → is_path (b ∷ r) ≡ true → is_rooted (b ∷ r) ≡ true
rooted b r is = (and_parts (nat_le (length (b ∷ r)) 1000) (is_rooted (b ∷ r)) is).1

line_plain : (p : Path) → is_path p ≡ true → has_newline (line_of p) ≡ false
line_plain [] is = refl
line_plain (b ∷ r) is = rooted_plain (b ∷ r) (rooted b r is)

no_path : (p text : Path) → is_path text ≡ false → is_path p ≡ true → bytes_eq p text ≡ false
no_path p text isnt is = false_from_ne_true (bytes_eq p text) (λ same. true≢false (sym is ∙ ap is_path ((bytes_eq-Decides p text).0 same) ∙ isnt))

line_named : (p : Path) → is_path p ≡ true → path_of (line_of p) ≡ p
line_named [] is = refl
line_named (b ∷ r) is = ap (λ t. cond t [] (b ∷ r)) (no_path (b ∷ r) (codes "/") refl is)

line_other : (p : Path) → is_path p ≡ true → bytes_eq (line_of p) root_line ≡ false
line_other [] is = refl
line_other (b ∷ r) is = no_path (b ∷ r) root_line refl is

-- the lines, and the paths that they name

written_lines : (lines : List (List ℕ)) → AllByRecursion (λ line. has_newline line ≡ false) lines → lines_in (flat_map (λ line. line ++ 10 ∷ []) lines) ≡ lines
written_lines [] plain = refl
written_lines (line ∷ lines) plain =
    let rest = flat_map (λ (l : List ℕ). l ++ 10 ∷ []) lines in
    ap lines_in (append_assoc line (10 ∷ []) rest) ∙ line_read line rest plain.0 ∙ ap (λ (l : List (List ℕ)). line ∷ l) (written_lines lines plain.1)

all_plain : (paths : List Path) → AllByRecursion IsListable paths → AllByRecursion (λ line. has_newline line ≡ false) (map line_of paths)
all_plain [] all = tt
all_plain (p ∷ ps) all = (line_plain p all.0.is, all_plain ps all.1)

lines_back : (paths : List Path) → AllByRecursion IsListable paths → lines_in (list_text paths) ≡ list_lines paths
lines_back paths all = written_lines (list_lines paths) (refl, all_plain paths all)

paths_back : (paths : List Path) → AllByRecursion IsListable paths → paths_in (map line_of paths) ≡ paths
paths_back [] all = refl
paths_back (p ∷ ps) all =
    ap (λ t. cond t [] (path_of (line_of p) ∷ []) ++ paths_in (map line_of ps)) (line_other p all.0.is)
    ∙ ap (λ (x : Path). x ∷ paths_in (map line_of ps)) (line_named p all.0.is) ∙ ap (λ (l : List Path). p ∷ l) (paths_back ps all.1)

-- what is read of the file
pub read_back : (paths : List Path) → AllByRecursion IsListable paths → paths_in (lines_in (list_text paths)) ≡ paths
read_back paths all = ap paths_in (lines_back paths all) ∙ paths_back paths all

-- its lines are good

or_last : (a b : Bool) → b ≡ true → a || b ≡ true
or_last true b is = refl
or_last false b is = is

and_both : (a b : Bool) → a ≡ true → b ≡ true → a && b ≡ true
and_both true b first second = second
and_both false b first second = absurd (false≢true first)

text_of_path : (b : ℕ) (r : Path) → is_path (b ∷ r) ≡ true → is_path_text (b ∷ r) ≡ true
text_of_path b r is =
    let parts = and_parts (nat_le (length (b ∷ r)) 1000) (is_rooted (b ∷ r)) is in
    and_both (nat_le (length (b ∷ r)) 1000) (bytes_eq (b ∷ r) (codes "/") || is_rooted (b ∷ r)) parts.0 (or_last (bytes_eq (b ∷ r) (codes "/")) (is_rooted (b ∷ r)) parts.1)

line_good : (p : Path) → IsListable p → IsUtf8 p → IsGood (line_of p)
line_good [] can text = inr (IsUtf8-from_ascii (47 ∷ []) (IsAscii-cons 47 [] (omega arith) IsAscii-nil), refl, refl)
line_good (b ∷ r) can text = inr (text, can.room, text_of_path b r can.is)

all_good : (paths : List Path) → AllByRecursion IsListable paths → AllByRecursion IsUtf8 paths → AllByRecursion IsGood (map line_of paths)
all_good [] can texts = tt
all_good (p ∷ ps) can texts = (line_good p can.0 texts.0, all_good ps can.1 texts.1)

-- the file of a list is readable, and lists its paths

pub list_readable : (paths : List Path) → AllByRecursion IsListable paths → AllByRecursion IsUtf8 paths → IsReadable (Some (list_file paths))
list_readable paths can texts = record {
  good = subst (AllByRecursion IsGood) (sym (lines_back paths can)) (inl refl, all_good paths can texts);
  ended = list_ended paths;
}

pub list_says : (paths : List Path) → AllByRecursion IsListable paths → (q : Path) → Lists (Some (list_file paths)) q ↔ Contains paths q
list_says paths can q = (λ is. subst (λ (l : List Path). Contains l q) (read_back paths can) is, λ is. subst (λ (l : List Path). Contains l q) (sym (read_back paths can)) is)
