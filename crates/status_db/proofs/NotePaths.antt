-- The paths of notes: they are paths, and differ from each other, from that of the status file and from temporary names.
use Rattle.std.proofs.Common.{◌≡◌, ◌≢◌, ◌||◌, not, ℕ, ◌+◌, ◌<◌, ◌≤◌, ◌/◌, ◌%◌, Bool, true, false, List, [], ◌∷◌, ◌++◌, length, get_or, drop, inl, inr, codes, nat_eq, refl, sym, ap, subst, ◌∙◌, arith, Contains}
use Rattle.std.specs.Prelude.{nat_le}
use Rattle.std.specs.List.{list_any, list_all}
use Rattle.std.specs.Str.{bytes_eq, IsUtf8}
use Rattle.std.proofs.lemmas.Bool.{and_from, and_parts, false_from_ne_true, false≢true, true≢false, le-leb, eqb-true}
use Rattle.std.proofs.lemmas.Bool.Decides.{nat_tests}
use Rattle.std.proofs.lemmas.Cmp.{nat_eq_equiv}
use Rattle.std.proofs.lemmas.Map.Views.{list_any-from_Contains}
use Rattle.std.proofs.lemmas.Slice.Eq.{bytes_eq-Decides}
use Rattle.std.proofs.lemmas.Str.{IsUtf8-from_ascii}
use Rattle.texts.specs.PackageNames.{is_name_sign}
use Rattle.texts.proofs.PackageNames.{signs_ascii}
use Rattle.host_core.specs.Paths.{Path, has_break, is_component, is_path}
use Rattle.host_core.specs.Tree.{has_slash, IsOdd}
use Rattle.host_core.proofs.PathLaws.{child_is_path}
use Rattle.administration.specs.Places.{home_path, status_path, updates_path, temporary}
use Rattle.status_db.specs.Notes.{digits, note_path, limit, within_limit}
use Rattle.status_db.specs.Held.{is_record_place}

-- they differ

pub note_path_once : (n m : ℕ) → note_path n ≡ note_path m → n ≡ m
note_path_once n m e =
    let a : 48 + n / 1000 ≡ 48 + m / 1000 = ap (λ (l : List ℕ). get_or l 22 0) e in
    let b : 48 + n / 100 % 10 ≡ 48 + m / 100 % 10 = ap (λ (l : List ℕ). get_or l 23 0) e in
    let c : 48 + n / 10 % 10 ≡ 48 + m / 10 % 10 = ap (λ (l : List ℕ). get_or l 24 0) e in
    let d : 48 + n % 10 ≡ 48 + m % 10 = ap (λ (l : List ℕ). get_or l 25 0) e in
    omega (arith, a, b, c, d)

pub spare_path_once : (n m : ℕ) → temporary (note_path n) ≡ temporary (note_path m) → n ≡ m
spare_path_once n m e =
    let a : 48 + n / 1000 ≡ 48 + m / 1000 = ap (λ (l : List ℕ). get_or l 22 0) e in
    let b : 48 + n / 100 % 10 ≡ 48 + m / 100 % 10 = ap (λ (l : List ℕ). get_or l 23 0) e in
    let c : 48 + n / 10 % 10 ≡ 48 + m / 10 % 10 = ap (λ (l : List ℕ). get_or l 24 0) e in
    let d : 48 + n % 10 ≡ 48 + m % 10 = ap (λ (l : List ℕ). get_or l 25 0) e in
    omega (arith, a, b, c, d)

pub status_is_no_note : (n : ℕ) → status_path ≢ note_path n
status_is_no_note n e = absurd (let d : ◌≡◌ {A = ℕ} 115 117 = ap (λ (l : List ℕ). get_or l 14 0) e in omega (arith, d))

pub status_is_no_spare : (n : ℕ) → status_path ≢ temporary (note_path n)
status_is_no_spare n e = absurd (let d : ◌≡◌ {A = ℕ} 115 117 = ap (λ (l : List ℕ). get_or l 14 0) e in omega (arith, d))

pub spare_status_is_no_note : (n : ℕ) → temporary status_path ≢ note_path n
spare_status_is_no_note n e = absurd (let d : ◌≡◌ {A = ℕ} 115 117 = ap (λ (l : List ℕ). get_or l 14 0) e in omega (arith, d))

pub spare_status_is_no_spare : (n : ℕ) → temporary status_path ≢ temporary (note_path n)
spare_status_is_no_spare n e = absurd (let d : ◌≡◌ {A = ℕ} 115 117 = ap (λ (l : List ℕ). get_or l 14 0) e in omega (arith, d))

pub spare_is_no_note : (n m : ℕ) → temporary (note_path n) ≢ note_path m
spare_is_no_note n m e = absurd (let d : ◌≡◌ {A = ℕ} 36 26 = ap length e in omega (arith, d))

pub home_is_no_note : (n : ℕ) → home_path ≢ note_path n
home_is_no_note n e = absurd (let d : ◌≡◌ {A = ℕ} 13 26 = ap length e in omega (arith, d))

pub home_is_no_spare : (n : ℕ) → home_path ≢ temporary (note_path n)
home_is_no_spare n e = absurd (let d : ◌≡◌ {A = ℕ} 13 36 = ap length e in omega (arith, d))

pub updates_is_no_note : (n : ℕ) → updates_path ≢ note_path n
updates_is_no_note n e = absurd (let d : ◌≡◌ {A = ℕ} 21 26 = ap length e in omega (arith, d))

pub updates_is_no_spare : (n : ℕ) → updates_path ≢ temporary (note_path n)
updates_is_no_spare n e = absurd (let d : ◌≡◌ {A = ℕ} 21 36 = ap length e in omega (arith, d))

pub home_is_no_status : home_path ≢ status_path
home_is_no_status e = absurd (omega (arith, ap length e))

pub home_is_no_spare_status : home_path ≢ temporary status_path
home_is_no_spare_status e = absurd (omega (arith, ap length e))

pub updates_is_no_status : updates_path ≢ status_path
updates_is_no_status e = absurd (omega (arith, ap length e))

pub updates_is_no_spare_status : updates_path ≢ temporary status_path
updates_is_no_spare_status e = absurd (omega (arith, ap length e))

-- they are places of records

pub status_is_place : is_record_place status_path ≡ true
status_is_place = refl

pub spare_status_is_place : is_record_place (temporary status_path) ≡ true
spare_status_is_place = refl

pub note_is_place : (n : ℕ) → is_record_place (note_path n) ≡ true
note_is_place n = refl

pub spare_is_place : (n : ℕ) → is_record_place (temporary (note_path n)) ≡ true
spare_is_place n = refl

-- digits are signs of names

digit_sign : (d : ℕ) → d < 10 → is_name_sign (48 + d) ≡ true
digit_sign d lt = grind (arith, nat_tests)

digits_signs : (n : ℕ) (tail : List ℕ) → n < limit → list_all is_name_sign tail ≡ true → list_all is_name_sign (digits n ++ tail) ≡ true
digits_signs n tail lt rest =
    let few = within_limit n lt in
    and_from (is_name_sign (48 + n / 1000)) _ (digit_sign (n / 1000) (omega (arith, few)))
    (and_from (is_name_sign (48 + n / 100 % 10)) _ (digit_sign (n / 100 % 10) (omega arith))
    (and_from (is_name_sign (48 + n / 10 % 10)) _ (digit_sign (n / 10 % 10) (omega arith))
    (and_from (is_name_sign (48 + n % 10)) _ (digit_sign (n % 10) (omega arith)) rest)))

-- a name of such signs

no_sign : (P : ℕ → Bool) → ((b : ℕ) → is_name_sign b ≡ true → P b ≡ false) → (name : List ℕ) → list_all is_name_sign name ≡ true → list_any P name ≡ false
no_sign P none [] all = refl
no_sign P none (b ∷ name) all =
    let parts = and_parts (is_name_sign b) (list_all is_name_sign name) all in
    ap (λ t. t || list_any P name) (none b parts.0) ∙ no_sign P none name parts.1

other : (b c : ℕ) → is_name_sign c ≡ false → is_name_sign b ≡ true → nat_eq b c ≡ false
other b c none is = false_from_ne_true (nat_eq b c) (λ e. absurd (false≢true (sym none ∙ ap is_name_sign (sym (eqb-true b c e)) ∙ is)))

pub signs_no_slash : (name : List ℕ) → list_all is_name_sign name ≡ true → has_slash name ≡ false
signs_no_slash name all = no_sign (λ b. nat_eq b 47) (λ b is. other b 47 refl is) name all

pub digits_plain : (n : ℕ) → n < limit → Contains (digits n) 47 → ⊥
digits_plain n lt has = true≢false (sym (list_any-from_Contains nat_eq_equiv 47 (digits n) has) ∙ free)
  where
    free : list_any (nat_eq 47) (digits n) ≡ false
    free = no_sign (nat_eq 47) (λ b is. false_from_ne_true (nat_eq 47 b) (λ e. absurd (false≢true (ap is_name_sign (eqb-true 47 b e) ∙ is)))) (digits n) (digits_signs n [] lt refl)

shorter : (t u : Path) → length u < length t → not (bytes_eq t u) ≡ true
shorter t u less = ap not (false_from_ne_true (bytes_eq t u) (λ same. absurd (omega (arith, less, ap length ((bytes_eq-Decides t u).0 same)))))

component : (name : List ℕ) → list_all is_name_sign name ≡ true → 2 < length name → length name ≤ 255 → is_component name ≡ true
component name all long short =
    and_from (not (bytes_eq name [])) _ (shorter name [] (omega (arith, long)))
    (and_from (not (bytes_eq name (codes "."))) _ (shorter name (codes ".") (omega (arith, long)))
    (and_from (not (bytes_eq name (codes ".."))) _ (shorter name (codes "..") (omega (arith, long)))
    (and_from (not (has_break name)) (nat_le (length name) 255)
    (ap not (no_sign (λ b. nat_eq b 10 || nat_eq b 0) (λ b is. ap (λ t. t || nat_eq b 0) (other b 10 refl is) ∙ other b 0 refl is) name all))
    (le-leb (length name) 255 short))))

in_updates : (name : List ℕ) → list_all is_name_sign name ≡ true → 2 < length name → length name ≤ 255 → is_path (updates_path ++ 47 ∷ name) ≡ true
in_updates name all long short = child_is_path updates_path name refl (component name all long short) (signs_no_slash name all) (omega (arith, short))

pub note_is_path : (n : ℕ) → n < limit → is_path (note_path n) ≡ true
note_is_path n lt = in_updates (digits n ++ []) (digits_signs n [] lt refl) (omega arith) (omega arith)

pub spare_is_path : (n : ℕ) → n < limit → is_path (temporary (note_path n)) ≡ true
spare_is_path n lt = in_updates (digits n ++ codes ".dpkg-inst") (digits_signs n (codes ".dpkg-inst") lt refl) (omega arith) (omega arith)

-- they are text

pub digits_utf8 : (n : ℕ) (tail : List ℕ) → n < limit → list_all is_name_sign tail ≡ true → IsUtf8 (digits n ++ tail)
digits_utf8 n tail lt rest = IsUtf8-from_ascii (digits n ++ tail) (signs_ascii (digits n ++ tail) (digits_signs n tail lt rest))

pub not_odd : (name : List ℕ) → IsUtf8 name → is_path (updates_path ++ 47 ∷ name) ≡ true → IsOdd updates_path name → ⊥
not_odd name text fits (inl no_text) = no_text text
not_odd name text fits (inr no_path) = true≢false (sym fits ∙ no_path)

-- so no name of a note, nor of one that is written, is odd
pub odd_is_no_note : (name : List ℕ) (n : ℕ) → n < limit → IsOdd updates_path name → updates_path ++ 47 ∷ name ≢ note_path n
odd_is_no_note name n lt odd e = absurd (let same : name ≡ digits n ++ [] = ap (λ (l : List ℕ). drop 22 l) e in
    not_odd name (subst IsUtf8 (sym same) (digits_utf8 n [] lt refl)) (ap is_path e ∙ note_is_path n lt) odd)

pub odd_is_no_spare : (name : List ℕ) (n : ℕ) → n < limit → IsOdd updates_path name → updates_path ++ 47 ∷ name ≢ temporary (note_path n)
odd_is_no_spare name n lt odd e = absurd (let same : name ≡ digits n ++ codes ".dpkg-inst" = ap (λ (l : List ℕ). drop 22 l) e in
    not_odd name (subst IsUtf8 (sym same) (digits_utf8 n (codes ".dpkg-inst") lt refl)) (ap is_path e ∙ spare_is_path n lt) odd)

pub digits_free : (n : ℕ) (tail : List ℕ) → n < limit → list_all is_name_sign tail ≡ true → has_slash (digits n ++ tail) ≡ false
digits_free n tail lt rest = signs_no_slash (digits n ++ tail) (digits_signs n tail lt rest)
