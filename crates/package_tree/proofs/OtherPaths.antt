-- The name of a file of `DEBIAN` that is stored is text, and makes a path there.
use Rattle.std.proofs.Common.{◌≡◌, ◌&&◌, ◌||◌, not, ℕ, ◌<◌, ◌≤◌, Bool, true, false, List, [], ◌∷◌, ◌++◌, length, codes, nat_eq, refl, sym, ap, ◌∙◌, arith}
use Rattle.std.specs.Prelude.{nat_le}
use Rattle.std.specs.List.{list_any, list_all}
use Rattle.std.specs.Str.{bytes_eq, IsUtf8}
use Rattle.std.proofs.lemmas.Bool.{and_parts, false_from_ne_true, false≢true, leb-true, le-leb, eqb-true}
use Rattle.std.proofs.lemmas.Bool.Decides.{nat_tests}
use Rattle.std.proofs.lemmas.List.Sums.{AllPass-from_list_all}
use Rattle.std.proofs.lemmas.Slice.Eq.{bytes_eq-Decides}
use Rattle.std.proofs.lemmas.Str.{IsUtf8-from_ascii}
use Rattle.std.proofs.lemmas.Str.Ascii.{IsAscii-from_all}
use Rattle.host_core.specs.Paths.{has_break, is_component, is_path}
use Rattle.host_core.proofs.PathLaws.{child_is_path}
use Rattle.package_tree.specs.OtherNames.{is_name_byte, is_other_name, is_taken, is_suffix_name}

abbrev is_slash : ℕ → Bool
is_slash b = nat_eq b 47

pub record IsNamed (name : List ℕ) : Type 0 where
  pub some : 1 ≤ length name
  pub few : length name ≤ 44
  pub bytes : list_all is_name_byte name ≡ true

pub named : (name : List ℕ) → is_other_name name ≡ true → IsNamed name
named name is =
    let first = and_parts (nat_le 1 (length name)) _ is in
    let second = and_parts (nat_le (length name) 44) _ first.1 in
    let third = and_parts (list_all is_name_byte name) (not (is_taken name) && not (is_suffix_name name)) second.1 in
    record { some = leb-true 1 (length name) first.0; few = leb-true (length name) 44 second.0; bytes = third.0 }

no_byte : (P : ℕ → Bool) → ((b : ℕ) → is_name_byte b ≡ true → P b ≡ false) → (name : List ℕ) → list_all is_name_byte name ≡ true → list_any P name ≡ false
no_byte P none [] all = refl
no_byte P none (b ∷ name) all =
    let parts = and_parts (is_name_byte b) (list_all is_name_byte name) all in
    ap (λ t. t || list_any P name) (none b parts.0) ∙ no_byte P none name parts.1

other : (b c : ℕ) → is_name_byte c ≡ false → is_name_byte b ≡ true → nat_eq b c ≡ false
other b c none is = false_from_ne_true (nat_eq b c) (λ e. absurd (false≢true (sym none ∙ ap is_name_byte (sym (eqb-true b c e)) ∙ is)))

no_slash : (b : ℕ) → is_name_byte b ≡ true → is_slash b ≡ false
no_slash b is = other b 47 refl is

no_break : (b : ℕ) → is_name_byte b ≡ true → nat_eq b 10 || nat_eq b 0 ≡ false
no_break b is = ap (λ t. t || nat_eq b 0) (other b 10 refl is) ∙ other b 0 refl is

both : (a b : Bool) → a ≡ true → b ≡ true → a && b ≡ true
both true b first second = second
both false b first second = absurd (false≢true first)

-- a name isn't a text that has another byte
not_text : (name text : List ℕ) → list_all is_name_byte name ≡ true → list_all is_name_byte text ≡ false → not (bytes_eq name text) ≡ true
not_text name text all none = ap not (false_from_ne_true (bytes_eq name text) (λ same. absurd (false≢true (sym none ∙ ap (list_all is_name_byte) (sym ((bytes_eq-Decides name text).0 same)) ∙ all))))

not_empty : (name : List ℕ) → 1 ≤ length name → not (bytes_eq name []) ≡ true
not_empty name some = ap not (false_from_ne_true (bytes_eq name []) (λ same. absurd (omega (arith, some, ap length ((bytes_eq-Decides name []).0 same)))))

component : (name : List ℕ) → is_other_name name ≡ true → is_component name ≡ true
component name is =
    let at = named name is in
    both (not (bytes_eq name [])) _ (not_empty name at.some)
    (both (not (bytes_eq name (codes "."))) _ (not_text name (codes ".") at.bytes refl)
    (both (not (bytes_eq name (codes ".."))) _ (not_text name (codes "..") at.bytes refl)
    (both (not (has_break name)) (nat_le (length name) 255) (ap not (no_byte (λ b. nat_eq b 10 || nat_eq b 0) no_break name at.bytes)) (le-leb (length name) 255 (omega (arith, at.few))))))

pub other_is_path : (name : List ℕ) → is_other_name name ≡ true → is_path (codes "/DEBIAN" ++ 47 ∷ name) ≡ true
other_is_path name is =
    let at = named name is in
    child_is_path (codes "/DEBIAN") name refl (component name is) (no_byte is_slash no_slash name at.bytes) (omega (arith, at.few))

pub other_plain : (name : List ℕ) → is_other_name name ≡ true → list_any is_slash name ≡ false
other_plain name is = no_byte is_slash no_slash name (named name is).bytes

byte_ascii : (b : ℕ) → is_name_byte b ≡ true → b < 128
byte_ascii b h = grind (arith, nat_tests)

pub other_is_text : (name : List ℕ) → is_other_name name ≡ true → IsUtf8 name
other_is_text name is = IsUtf8-from_ascii name (IsAscii-from_all name (λ i d l. byte_ascii _ (AllPass-from_list_all is_name_byte name (named name is).bytes i d l)))
