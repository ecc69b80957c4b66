-- The places of files of interests are paths in one directory, and none is the temporary name of another.
use Rattle.std.proofs.Common.{◌≡◌, ◌≢◌, ◌⊎◌, ◌+◌, ◌<◌, ◌≤◌, ◌-◌, ◌&&◌, ◌||◌, inl, inr, not, ℕ, Bool, true, false, List, [], ◌∷◌, ◌++◌, length, drop, codes, nat_eq, refl, sym, ap, subst, ◌∙◌, arith, append_assoc, Contains}
use Rattle.std.specs.Prelude.{nat_le, slice_index}
use Rattle.std.specs.List.{ends_with, list_any, list_all}
use Rattle.std.specs.Str.{bytes_eq, IsUtf8}
use Rattle.std.proofs.Math.Seq.{drop-append_seam}
use Rattle.std.proofs.lemmas.Bool.{and_from, and_parts, eqb-true, false_from_ne_true, false≢true, leb-true, le-leb, or_cases, true≢false}
use Rattle.std.proofs.lemmas.List.{append_cancel_left, append_cancel_right, length-append}
use Rattle.std.proofs.lemmas.List.Folds.{list_any-append}
use Rattle.std.proofs.lemmas.Slice.Eq.{bytes_eq-Decides}
use Rattle.std.proofs.lemmas.Bool.Decides.{nat_tests}
use Rattle.std.proofs.lemmas.List.Sums.{AllPass-from_list_all}
use Rattle.std.proofs.lemmas.Str.{IsUtf8-from_ascii}
use Rattle.std.proofs.lemmas.Str.Ascii.{IsAscii-from_all}
use Rattle.texts.specs.PackageNames.{is_name_sign, is_lower_or_digit, is_package_name}
use Rattle.texts.proofs.PackageNames.{signs_ascii, signs_of_name}
use Rattle.host_core.specs.Paths.{Path, has_break, is_component, is_path}
use Rattle.host_core.specs.World.{World, HasParent, IsDirectory}
use Rattle.host_core.proofs.PathLaws.{child_is_path}
use Rattle.administration.specs.Places.{temporary}
use Rattle.administration.proofs.WholeFiles.{no_slash}
use Rattle.trigger_journal.specs.Places.{triggers_directory}
use Rattle.trigger_files.specs.Places.{is_aside, is_register, paths_name, place}
use Rattle.trigger_files.specs.Registered.{IsBesideRegisters}

-- signs of a name

without_sign : (P : ℕ → Bool) → ((b : ℕ) → is_name_sign b ≡ true → P b ≡ false) → (name : List ℕ) → list_all is_name_sign name ≡ true → list_any P name ≡ false
without_sign P none [] all = refl
without_sign P none (b ∷ name) all =
    let parts = and_parts (is_name_sign b) (list_all is_name_sign name) all in
    ap (λ t. t || list_any P name) (none b parts.0) ∙ without_sign P none name parts.1

other : (b c : ℕ) → is_name_sign c ≡ false → is_name_sign b ≡ true → nat_eq b c ≡ false
other b c none is = false_from_ne_true (nat_eq b c) (λ e. absurd (false≢true (sym none ∙ ap is_name_sign (sym (eqb-true b c e)) ∙ is)))

other_way : (b c : ℕ) → is_name_sign c ≡ false → is_name_sign b ≡ true → nat_eq c b ≡ false
other_way b c none is = false_from_ne_true (nat_eq c b) (λ e. absurd (false≢true (sym none ∙ ap is_name_sign (eqb-true c b e) ∙ is)))

sign_unbroken : (b : ℕ) → is_name_sign b ≡ true → nat_eq b 10 || nat_eq b 0 ≡ false
sign_unbroken b is = ap (λ t. t || nat_eq b 0) (other b 10 refl is) ∙ other b 0 refl is

few : (name : List ℕ) → is_package_name name ≡ true → length name ≤ 200
few name is = leb-true (length name) 200 (and_parts (nat_le (length name) 200) (is_lower_or_digit (slice_index name 0) && list_all is_name_sign name) (and_parts (nat_le 2 (length name)) _ is).1).0

many : (name : List ℕ) → is_package_name name ≡ true → 2 ≤ length name
many name is = leb-true 2 (length name) (and_parts (nat_le 2 (length name)) _ is).0

-- the file of the paths, or a name of a package
named : (name : List ℕ) → is_register name ≡ true → (name ≡ paths_name) ⊎ (is_package_name name ≡ true)
named name is = elim (or_cases (bytes_eq name paths_name) (is_package_name name) (and_parts (bytes_eq name paths_name || is_package_name name) (not (is_aside name)) is).0) [
  | inl e ↦ inl ((bytes_eq-Decides name paths_name).0 e)
  | inr e ↦ inr e
]

-- as a component of a path

differs : (t u : Path) → (t ≡ u → ⊥) → not (bytes_eq t u) ≡ true
differs t u apart = ap not (false_from_ne_true (bytes_eq t u) (λ same. absurd (apart ((bytes_eq-Decides t u).0 same))))

component : (name tail : List ℕ) → is_package_name name ≡ true → (name ++ tail ≡ [] → ⊥) → (name ++ tail ≡ codes "." → ⊥) → (name ++ tail ≡ codes ".." → ⊥) → length tail ≤ 55 → has_break tail ≡ false → is_component (name ++ tail) ≡ true
component name tail is some one two short plain =
    and_from (not (bytes_eq (name ++ tail) [])) _ (differs (name ++ tail) [] some)
    (and_from (not (bytes_eq (name ++ tail) (codes "."))) _ (differs (name ++ tail) (codes ".") one)
    (and_from (not (bytes_eq (name ++ tail) (codes ".."))) _ (differs (name ++ tail) (codes "..") two)
    (and_from (not (has_break (name ++ tail))) (nat_le (length (name ++ tail)) 255)
    (ap not (list_any-append _ name tail ∙ ap (λ b. b || has_break tail) (without_sign (λ b. nat_eq b 10 || nat_eq b 0) sign_unbroken name (signs_of_name name is)) ∙ plain))
    (le-leb (length (name ++ tail)) 255 (omega (arith, length-append name tail, few name is, short))))))

abbrev is_slash : ℕ → Bool
is_slash b = nat_eq b 47

free_tail : (name tail : List ℕ) → is_package_name name ≡ true → list_any is_slash tail ≡ false → list_any is_slash (name ++ tail) ≡ false
free_tail name tail is free =
    list_any-append is_slash name tail ∙ ap (λ b. b || list_any is_slash tail) (without_sign is_slash (λ b sign. other b 47 refl sign) name (signs_of_name name is)) ∙ free

in_triggers : (name tail : List ℕ) → is_package_name name ≡ true → (name ++ tail ≡ [] → ⊥) → (name ++ tail ≡ codes "." → ⊥) → (name ++ tail ≡ codes ".." → ⊥) → length tail ≤ 55 → has_break tail ≡ false → list_any is_slash tail ≡ false
    → is_path (place (name ++ tail)) ≡ true
in_triggers name tail is some one two short plain free =
    child_is_path triggers_directory (name ++ tail) refl (component name tail is some one two short plain) (free_tail name tail is free)
    (omega (arith, length-append name tail, few name is, short))

-- no name of a package is one that isn't
unlike : (name word : List ℕ) → is_package_name name ≡ true → is_package_name word ≡ false → name ≡ word → ⊥
unlike name word is isnt e = true≢false (sym is ∙ ap is_package_name e ∙ isnt)

append_none : (name : List ℕ) → name ++ [] ≡ name
append_none [] = refl
append_none (b ∷ bs) = ap (λ (l : List ℕ). b ∷ l) (append_none bs)

package_place : (name : List ℕ) → is_package_name name ≡ true → is_path (place name) ≡ true
package_place name is =
    subst (λ (n : List ℕ). is_path (place n) ≡ true) (append_none name)
    (in_triggers name [] is (λ e. unlike name [] is refl (sym (append_none name) ∙ e)) (λ e. unlike name (codes ".") is refl (sym (append_none name) ∙ e)) (λ e. unlike name (codes "..") is refl (sym (append_none name) ∙ e)) (omega arith) refl refl)

package_spare : (name : List ℕ) → is_package_name name ≡ true → is_path (temporary (place name)) ≡ true
package_spare name is =
    in_triggers name (codes ".dpkg-inst") is
    (λ e. absurd (omega (arith, length-append name (codes ".dpkg-inst"), ap length e)))
    (λ e. absurd (omega (arith, length-append name (codes ".dpkg-inst"), ap length e)))
    (λ e. absurd (omega (arith, length-append name (codes ".dpkg-inst"), ap length e)))
    (omega arith) refl refl

pub place_is_path : (name : List ℕ) → is_register name ≡ true → is_path (place name) ≡ true
place_is_path name is = elim (named name is) [
  | inl e ↦ subst (λ (n : List ℕ). is_path (place n) ≡ true) (sym e) refl
  | inr e ↦ package_place name e
]

pub spare_is_path : (name : List ℕ) → is_register name ≡ true → is_path (temporary (place name)) ≡ true
spare_is_path name is = elim (named name is) [
  | inl e ↦ subst (λ (n : List ℕ). is_path (temporary (place n)) ≡ true) (sym e) refl
  | inr e ↦ package_spare name e
]

-- it stands in the directory

pub plain_name : (name : List ℕ) → is_register name ≡ true → list_any is_slash name ≡ false
plain_name name is = elim (named name is) [
  | inl e ↦ subst (λ (n : List ℕ). list_any is_slash n ≡ false) (sym e) refl
  | inr e ↦ without_sign is_slash (λ b sign. other b 47 refl sign) name (signs_of_name name e)
]

slashless : (name : List ℕ) → is_register name ≡ true → list_any (nat_eq 47) name ≡ false
slashless name is = elim (named name is) [
  | inl e ↦ subst (λ (n : List ℕ). list_any (nat_eq 47) n ≡ false) (sym e) refl
  | inr e ↦ without_sign (nat_eq 47) (λ b sign. other_way b 47 refl sign) name (signs_of_name name e)
]

pub place_parent : (w : World) (name : List ℕ) → is_register name ≡ true → IsDirectory (w triggers_directory) → HasParent w (place name)
place_parent w name is there = (triggers_directory, name, refl, no_slash name (slashless name is), there)

abbrev is_file_sign : ℕ → Bool
is_file_sign b = nat_le b 127

file_ascii : (b : ℕ) → is_file_sign b ≡ true → b < 128
file_ascii b h = grind (arith, nat_tests)

file_utf8 : IsUtf8 paths_name
file_utf8 = IsUtf8-from_ascii paths_name (IsAscii-from_all paths_name (λ i d l. file_ascii _ (AllPass-from_list_all is_file_sign paths_name refl i d l)))

pub name_utf8 : (name : List ℕ) → is_register name ≡ true → IsUtf8 name
name_utf8 name is = elim (named name is) [
  | inl e ↦ subst (λ (n : List ℕ). IsUtf8 n) (sym e) file_utf8
  | inr e ↦ IsUtf8-from_ascii name (signs_ascii name (signs_of_name name e))
]

-- apart from each other

pub place_same : (a b : List ℕ) → place a ≡ place b → a ≡ b
place_same a b e = append_cancel_left (triggers_directory ++ 47 ∷ []) a b e

pub spare_same : (a b : List ℕ) → temporary (place a) ≡ temporary (place b) → a ≡ b
spare_same a b e = place_same a b (append_cancel_right (place a) (place b) (codes ".dpkg-inst") e)

ends_beside : (p s : Path) → ends_with nat_eq (p ++ s) s ≡ true
ends_beside p s =
    let n : length (p ++ s) - length s ≡ length p = omega (arith, length-append p s) in
    (bytes_eq-Decides s (drop (length (p ++ s) - length s) (p ++ s))).1 (sym (ap (λ k. drop k (p ++ s)) n ∙ drop-append_seam p s))

aside_no_register : (name : List ℕ) → is_register (name ++ codes ".dpkg-inst") ≡ true → ⊥
aside_no_register name is =
    let word = name ++ codes ".dpkg-inst" in
    true≢false (sym (and_parts (bytes_eq word paths_name || is_package_name word) (not (is_aside word)) is).1
    ∙ ap (λ (t : Bool). not (t || ends_with nat_eq word (codes ".new"))) (ends_beside name (codes ".dpkg-inst")))

pub place_no_spare : (a b : List ℕ) → is_register a ≡ true → place a ≢ temporary (place b)
place_no_spare a b is e = aside_no_register b (subst (λ (n : List ℕ). is_register n ≡ true) (place_same a (b ++ codes ".dpkg-inst") e) is)

-- the directory is none of them

pub directory_beside : IsBesideRegisters triggers_directory
directory_beside name is = (
  (λ e. absurd (omega (arith, length-append triggers_directory (47 ∷ name), ap length e))),
  (λ e. absurd (omega (arith, length-append triggers_directory (47 ∷ (name ++ codes ".dpkg-inst")), ap length e))),
)
