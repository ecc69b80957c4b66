-- The text of a table, and how it is read.
use Rattle.std.proofs.Common.{◌≡◌, ℕ, ◌||◌, ◌&&◌, Bool, true, false, not, cond, List, [], ◌∷◌, ◌++◌, length, map, nat_eq, codes, refl, sym, ap, ◌∙◌, arith, append_assoc, Bor}
use Rattle.std.specs.Str.{bytes_eq}
use Rattle.std.specs.Prelude.{nat_le, slice_index}
use Rattle.std.specs.List.{list_any, list_all, onto_first}
use Rattle.std.proofs.lemmas.Bool.{and_parts, eqb-true, false≢true, or_from, or_parts, ne_eqb}
use Rattle.std.proofs.lemmas.Grind.{flat_map-append}
use Rattle.std.proofs.lemmas.List.{map-append}
use Rattle.std.proofs.lemmas.List.Elements.{filter-append}
use Rattle.std.proofs.lemmas.List.Splits.{slice_split-cons_yes, slice_split-cons_no}
use Rattle.host_core.specs.Paths.{Path, components, has_break, is_component, is_rooted}
use Rattle.host_core.proofs.ShipNames.{ships}
use Rattle.texts.specs.PackageNames.{is_lower_or_digit, is_name_sign}
use Rattle.diversions.specs.Entries.{IsTable, is_owner, without}
use Rattle.diversions.specs.Lines.{lines_in, owner_line, entry_lines, lines_of, ReadsAs}
use Rattle.diversions.specs.Writing.{text_of, entry_text, table_text}
use Rattle.diversions.specs.declared.entry.Owner.{Owner}
use Rattle.diversions.specs.declared.entry.Owner.TheVariants.{Local, Package}
use Rattle.diversions.specs.declared.entry.Diversion.{Diversion}
use Rattle.diversions.proofs.Tables.{without_none, table_last}

-- a line without newline is read as itself

abbrev has_newline : List ℕ → Bool
has_newline line = list_any (λ b. nat_eq b 10) line

pub line_read : (line rest : List ℕ) → list_any (λ b. nat_eq b 10) line ≡ false → lines_in (line ++ 10 ∷ rest) ≡ line ∷ lines_in rest
line_read [] rest plain = refl
line_read (b ∷ line) rest plain =
    let parts = or_parts (nat_eq b 10) (has_newline line) plain in
    ap (λ t. cond t ([] ∷ lines_in (line ++ 10 ∷ rest)) (onto_first b (lines_in (line ++ 10 ∷ rest)))) parts.0 ∙ ap (onto_first b) (line_read line rest parts.1)

abbrev AllPlain : List (List ℕ) → Type 0
AllPlain [] = Unit {0}
AllPlain (line ∷ lines) = (has_newline line ≡ false) × AllPlain lines

text_read : (lines : List (List ℕ)) → AllPlain lines → lines_in (text_of lines) ≡ lines
text_read [] plain = refl
text_read (line ∷ lines) plain =
    ap lines_in (append_assoc line (10 ∷ []) (text_of lines)) ∙ line_read line (text_of lines) plain.0 ∙ ap (λ (l : List (List ℕ)). line ∷ l) (text_read lines plain.1)

-- a shipped path has no newline

abbrev breaks : ℕ → Bool
breaks b = nat_eq b 10 || nat_eq b 0

no_break : (c : Path) → is_component c ≡ true → has_break c ≡ false
no_break c is =
    flipped (has_break c) (and_parts (not (has_break c)) _ (and_parts (not (bytes_eq c (codes ".."))) _ (and_parts (not (bytes_eq c (codes "."))) _ (and_parts (not (bytes_eq c [])) _ is).1).1).1).0
  where
    flipped : (b : Bool) → not b ≡ true → b ≡ false
    flipped true e = absurd (false≢true e)
    flipped false e = refl

part_plain : (l : List Path) → list_all is_component l ≡ true → list_all (λ c. not (has_newline c)) l ≡ true
part_plain [] all = refl
part_plain (c ∷ l) all =
    let parts = and_parts (is_component c) (list_all is_component l) all in
    ap (λ t. not t && list_all (λ d. not (has_newline d)) l) (newline_of c (no_break c parts.0)) ∙ part_plain l parts.1
  where
    newline_of : (x : Path) → has_break x ≡ false → has_newline x ≡ false
    newline_of [] none = refl
    newline_of (b ∷ x) none =
        let p = or_parts (breaks b) (has_break x) none in
        or_from (nat_eq b 10) (has_newline x) (or_parts (nat_eq b 10) (nat_eq b 0) p.0).0 (newline_of x p.1)

not_ten : (b : ℕ) → nat_eq b 47 ≡ true → nat_eq b 10 ≡ false
not_ten b slash = ne_eqb b 10 (λ e. let f : b ≡ 47 = eqb-true b 47 slash in omega (arith, e, f))

onto_plain : (b : ℕ) (l : List Path) → list_all (λ c. not (has_newline c)) (onto_first b l) ≡ true → (nat_eq b 10 ≡ false) × (list_all (λ c. not (has_newline c)) l ≡ true)
onto_plain b [] all = (unturned (nat_eq b 10) (and_parts (not (nat_eq b 10 || false)) true all).0, refl)
  where
    unturned : (t : Bool) → not (t || false) ≡ true → t ≡ false
    unturned true e = absurd (false≢true e)
    unturned false e = refl
onto_plain b (c ∷ l) all = at (nat_eq b 10) refl all
  where
    at : (t : Bool) → nat_eq b 10 ≡ t → not (t || has_newline c) && list_all (λ d. not (has_newline d)) l ≡ true → (t ≡ false) × (not (has_newline c) && list_all (λ d. not (has_newline d)) l ≡ true)
    at true is every = absurd (false≢true every)
    at false is every = (refl, every)

parts_plain : (p : Path) → list_all (λ c. not (has_newline c)) (components p) ≡ true → has_newline p ≡ false
parts_plain [] all = refl
parts_plain (b ∷ p) all = at (λ h. parts_plain p h) (nat_eq b 47) refl
  where
    at : (list_all (λ c. not (has_newline c)) (components p) ≡ true → has_newline p ≡ false) → (t : Bool) → nat_eq b 47 ≡ t → has_newline (b ∷ p) ≡ false
    at rest true slash =
        or_from (nat_eq b 10) (has_newline p) (not_ten b slash)
        (rest (sym (ap (list_all (λ c. not (has_newline c))) (slice_split-cons_yes (λ x. nat_eq x 47) b p slash)) ∙ all))
    at rest false other =
        let parts = onto_plain b (components p) (sym (ap (list_all (λ c. not (has_newline c))) (slice_split-cons_no (λ x. nat_eq x 47) b p other)) ∙ all) in
        or_from (nat_eq b 10) (has_newline p) parts.0 (rest parts.1)

rooted_plain : (p : Path) → is_rooted p ≡ true → has_newline p ≡ false
rooted_plain [] is = refl
rooted_plain (b ∷ p) is =
    let parts = and_parts (nat_eq b 47) (list_all is_component (components p)) is in
    or_from (nat_eq b 10) (has_newline p) (not_ten b parts.0) (parts_plain p (part_plain (components p) parts.1))

-- nor has an owner's line

sign_plain : (name : List ℕ) → list_all is_name_sign name ≡ true → has_newline name ≡ false
sign_plain [] all = refl
sign_plain (b ∷ name) all =
    let parts = and_parts (is_name_sign b) (list_all is_name_sign name) all in
    or_from (nat_eq b 10) (has_newline name) (ne_eqb b 10 (λ e. false≢true (ap is_name_sign (sym e) ∙ parts.0))) (sign_plain name parts.1)

owner_plain : (o : Owner) → is_owner o ≡ true → has_newline (owner_line o) ≡ false
owner_plain Local is = refl
owner_plain (Package name) is =
    sign_plain name (and_parts (is_lower_or_digit (slice_index name 0)) (list_all is_name_sign name) (and_parts (nat_le (length name) 200) _ (and_parts (nat_le 2 (length name)) _ is).1).1).1

entries_plain : (entries : List Diversion) → IsTable entries → AllPlain (lines_of entries)
entries_plain [] table = tt
entries_plain (d ∷ entries) table =
    let target : AllPlain (d.target ∷ owner_line d.owner ∷ lines_of entries) =
    (rooted_plain d.target (ships d.target table.0.target.path).rooted, (owner_plain d.owner table.0.owner, entries_plain entries table.3)) in
    (rooted_plain d.path (ships d.path table.0.path.path).rooted, target)

-- what is written is read back as itself
pub written_read : (entries : List Diversion) → IsTable entries → ReadsAs (table_text entries) entries
written_read entries table = record { lines = text_read (lines_of entries) (entries_plain entries table); table = table }

-- entry after entry

pub table_text-append : (a b : List Diversion) → table_text (a ++ b) ≡ table_text a ++ table_text b
table_text-append a b = ap text_of (flat_map-append entry_lines a b) ∙ flat_map-append (λ (line : List ℕ). line ++ 10 ∷ []) (lines_of a) (lines_of b)

pub written_more : (text new : List ℕ) (path : Path) (ys : List (Bor Diversion)) (x : Bor Diversion) → text ≡ table_text (without path (map (λ b. b.now) ys)) → new ≡ text ++ table_text (without path (x.now ∷ []))
    → new ≡ table_text (without path (map (λ b. b.now) (ys ++ x ∷ [])))
written_more text new path ys x before grown =
    let front : List Diversion = map (λ (b : Bor Diversion). b.now) ys in
    grown ∙ ap (λ (l : List ℕ). l ++ table_text (without path (x.now ∷ []))) before
    ∙ sym (table_text-append (without path front) (without path (x.now ∷ [])))
    ∙ ap table_text (sym (filter-append _ front (x.now ∷ [])))
    ∙ ap (λ (l : List Diversion). table_text (without path l)) (sym (map-append (λ (b : Bor Diversion). b.now) ys (x ∷ [])))

-- with one entry more
pub written_with : (entries : List Diversion) (d : Diversion) (text new : List ℕ) (p : Path) → p ≡ d.path → IsTable (entries ++ d ∷ []) → text ≡ table_text (without p entries) → new ≡ text ++ entry_text d → new ≡ table_text (entries ++ d ∷ [])
written_with entries d text new p same table before grown =
    let all : without p entries ≡ entries = ap (λ (q : Path). without q entries) same ∙ without_none d.path entries (table_last entries d table).path.not_diverted in
    grown ∙ ap (λ (l : List ℕ). l ++ entry_text d) (before ∙ ap table_text all) ∙ sym (table_text-append entries (d ∷ []))
