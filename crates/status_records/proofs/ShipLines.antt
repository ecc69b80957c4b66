-- The path of a conffile can stand on a line.
use Rattle.std.proofs.Common.{◌≡◌, ℕ, zero, suc, ◌||◌, ◌&&◌, Bool, true, false, not, List, [], ◌∷◌, nat_eq, codes, refl, sym, ap, ◌∙◌, arith}
use Rattle.std.specs.Str.{bytes_eq, IsUtf8}
use Rattle.std.specs.List.{list_any, list_all, onto_first}
use Rattle.std.proofs.lemmas.Bool.{and_parts, eqb-true, false≢true, true≢false, or_from, or_parts, ne_eqb, not-true}
use Rattle.std.proofs.lemmas.List.Splits.{slice_split-cons_yes, slice_split-cons_no}
use Rattle.std.proofs.lemmas.Slice.Eq.{bytes_eq-Decides}
use Rattle.std.proofs.lemmas.Str.{IsUtf8-from_is_utf8}
use Rattle.control_fields.specs.Names.{Lacks, trim_end}
use Rattle.host_core.specs.Paths.{Path, components, has_break, is_component, is_rooted, is_ship_text}
use Rattle.host_core.proofs.ShipNames.{ships}
use Rattle.status_records.specs.ConffilePaths.{is_ship_path, is_trimmed, is_conffile_path}

-- a rooted path has no newline

abbrev has_newline : List ℕ → Bool
has_newline line = list_any (λ b. nat_eq b 10) line

no_break : (c : Path) → is_component c ≡ true → has_break c ≡ false
no_break c is =
    not-true (has_break c) (and_parts (not (has_break c)) _ (and_parts (not (bytes_eq c (codes ".."))) _ (and_parts (not (bytes_eq c (codes "."))) _ (and_parts (not (bytes_eq c [])) _ is).1).1).1).0

part_plain : (l : List Path) → list_all is_component l ≡ true → list_all (λ c. not (has_newline c)) l ≡ true
part_plain [] all = refl
part_plain (c ∷ l) all =
    let parts = and_parts (is_component c) (list_all is_component l) all in
    ap (λ t. not t && list_all (λ d. not (has_newline d)) l) (newline_of c (no_break c parts.0)) ∙ part_plain l parts.1
  where
    newline_of : (x : Path) → has_break x ≡ false → has_newline x ≡ false
    newline_of [] none = refl
    newline_of (b ∷ x) none =
        let p = or_parts (nat_eq b 10 || nat_eq b 0) (has_break x) none in
        or_from (nat_eq b 10) (has_newline x) (or_parts (nat_eq b 10) (nat_eq b 0) p.0).0 (newline_of x p.1)

not_ten : (b : ℕ) → nat_eq b 47 ≡ true → nat_eq b 10 ≡ false
not_ten b slash = ne_eqb b 10 (λ e. let f : b ≡ 47 = eqb-true b 47 slash in omega (arith, e, f))

onto_plain : (b : ℕ) (l : List Path) → list_all (λ c. not (has_newline c)) (onto_first b l) ≡ true → (nat_eq b 10 ≡ false) × (list_all (λ c. not (has_newline c)) l ≡ true)
onto_plain b [] all = (unturned (nat_eq b 10) (and_parts (not (nat_eq b 10 || false)) true all).0, refl)
  where
    unturned : (t : Bool) → not (t || false) ≡ true → t ≡ false
    unturned true e = absurd (false≢true e)
    unturned false e = refl
onto_plain b (c ∷ l) all = at (nat_eq b 10) refl all
  where
    at : (t : Bool) → nat_eq b 10 ≡ t → not (t || has_newline c) && list_all (λ d. not (has_newline d)) l ≡ true → (t ≡ false) × (not (has_newline c) && list_all (λ d. not (has_newline d)) l ≡ true)
    at true is every = absurd (false≢true every)
    at false is every = (refl, every)

parts_plain : (p : Path) → list_all (λ c. not (has_newline c)) (components p) ≡ true → has_newline p ≡ false
parts_plain [] all = refl
parts_plain (b ∷ p) all = at (λ h. parts_plain p h) (nat_eq b 47) refl
  where
    at : (list_all (λ c. not (has_newline c)) (components p) ≡ true → has_newline p ≡ false) → (t : Bool) → nat_eq b 47 ≡ t → has_newline (b ∷ p) ≡ false
    at rest true slash =
        or_from (nat_eq b 10) (has_newline p) (not_ten b slash)
        (rest (sym (ap (list_all (λ c. not (has_newline c))) (slice_split-cons_yes (λ x. nat_eq x 47) b p slash)) ∙ all))
    at rest false other =
        let parts = onto_plain b (components p) (sym (ap (list_all (λ c. not (has_newline c))) (slice_split-cons_no (λ x. nat_eq x 47) b p other)) ∙ all) in
        or_from (nat_eq b 10) (has_newline p) parts.0 (rest parts.1)

rooted_plain : (p : Path) → is_rooted p ≡ true → has_newline p ≡ false
rooted_plain [] is = refl
rooted_plain (b ∷ p) is =
    let parts = and_parts (nat_eq b 47) (list_all is_component (components p)) is in
    or_from (nat_eq b 10) (has_newline p) (not_ten b parts.0) (parts_plain p (part_plain (components p) parts.1))

lacks_plain : (l : List ℕ) → has_newline l ≡ false → Lacks l 10
lacks_plain [] none i lt is = absurd (omega (arith, lt))
lacks_plain (b ∷ l) none zero lt is = true≢false (sym (eqb_here b is) ∙ (or_parts (nat_eq b 10) (has_newline l) none).0)
  where
    eqb_here : (b : ℕ) → b ≡ 10 → nat_eq b 10 ≡ true
    eqb_here b e = ap (λ c. nat_eq c 10) e
lacks_plain (b ∷ l) none (suc i) lt is = lacks_plain l (or_parts (nat_eq b 10) (has_newline l) none).1 i (omega (arith, lt)) is

-- what holds of the path of a conffile

pub record IsLinePath (path : Path) : Type 0 where
  pub utf8 : IsUtf8 path
  pub one_line : Lacks path 10
  pub trimmed : trim_end path ≡ path
  pub ship : is_ship_path path ≡ true

pub line_path : (path : Path) → is_conffile_path path ≡ true → IsLinePath path
line_path path is =
    let parts = and_parts (is_ship_path path) (is_trimmed path) is in
    let ship = and_parts _ (is_ship_text path) parts.0 in
    record {
      utf8 = IsUtf8-from_is_utf8 path ship.0;
      one_line = lacks_plain path (rooted_plain path (ships path ship.1).rooted);
      trimmed = (bytes_eq-Decides (trim_end path) path).0 parts.1;
      ship = parts.0;
    }
