-- The files of a package's name, and their temporary names, are paths.
use Rattle.std.proofs.Common.{◌≡◌, ◌&&◌, ◌||◌, not, ℕ, ◌<◌, ◌≤◌, Bool, true, false, List, [], ◌∷◌, ◌++◌, length, codes, nat_eq, refl, sym, ap, subst, ◌∙◌, arith, append_assoc}
use Rattle.std.specs.Prelude.{nat_le, slice_index}
use Rattle.std.specs.List.{list_any, list_all}
use Rattle.std.specs.Str.{bytes_eq}
use Rattle.std.proofs.lemmas.Bool.{and_parts, false_from_ne_true, false≢true, leb-true, le-leb}
use Rattle.std.proofs.lemmas.List.{length-append}
use Rattle.std.proofs.lemmas.List.Folds.{list_any-append}
use Rattle.std.proofs.lemmas.Slice.Eq.{bytes_eq-Decides}
use Rattle.std.proofs.lemmas.Bool.{eqb-true}
use Rattle.texts.specs.PackageNames.{is_name_sign, is_lower_or_digit, is_package_name}
use Rattle.texts.proofs.PackageNames.{signs_of_name}
use Rattle.host_core.specs.Paths.{Path, has_break, is_component, is_path}
use Rattle.host_core.specs.Outcome.{script_name}
use Rattle.host_core.specs.declared.call.Script.{Script}
use Rattle.host_core.specs.declared.call.Script.TheVariants.{Preinst, Postinst, Prerm, Postrm}
use Rattle.host_core.proofs.PathLaws.{child_is_path}
use Rattle.administration.specs.Places.{info_path, info_file, list_path, script_path, tmp_script_path, temporary}

abbrev is_slash : ℕ → Bool
is_slash b = nat_eq b 47

-- no sign of a name is one of some other bytes
no_sign : (P : ℕ → Bool) → ((b : ℕ) → is_name_sign b ≡ true → P b ≡ false) → (name : List ℕ) → list_all is_name_sign name ≡ true → list_any P name ≡ false
no_sign P none [] all = refl
no_sign P none (b ∷ name) all =
    let parts = and_parts (is_name_sign b) (list_all is_name_sign name) all in
    ap (λ t. t || list_any P name) (none b parts.0) ∙ no_sign P none name parts.1

other : (b c : ℕ) → is_name_sign c ≡ false → is_name_sign b ≡ true → nat_eq b c ≡ false
other b c none is = false_from_ne_true (nat_eq b c) (λ e. absurd (false≢true (sym none ∙ ap is_name_sign (sym (eqb-true b c e)) ∙ is)))

no_slash : (b : ℕ) → is_name_sign b ≡ true → is_slash b ≡ false
no_slash b is = other b 47 refl is

no_break : (b : ℕ) → is_name_sign b ≡ true → nat_eq b 10 || nat_eq b 0 ≡ false
no_break b is = ap (λ t. t || nat_eq b 0) (other b 10 refl is) ∙ other b 0 refl is

-- what follows a name in the name of one of its files
record IsTail (tail : List ℕ) : Type 0 where
  pub long : 2 < length tail
  pub short : length tail ≤ 55
  pub plain : has_break tail ≡ false
  pub free : list_any is_slash tail ≡ false

shorter : (t u : Path) → length u < length t → not (bytes_eq t u) ≡ true
shorter t u less = ap not (false_from_ne_true (bytes_eq t u) (λ same. absurd (omega (arith, less, ap length ((bytes_eq-Decides t u).0 same)))))

both : (a b : Bool) → a ≡ true → b ≡ true → a && b ≡ true
both true b first second = second
both false b first second = absurd (false≢true first)

few : (name : List ℕ) → is_package_name name ≡ true → length name ≤ 200
few name is = leb-true (length name) 200 (and_parts (nat_le (length name) 200) (is_lower_or_digit (slice_index name 0) && list_all is_name_sign name) (and_parts (nat_le 2 (length name)) _ is).1).0

component : (name tail : List ℕ) → is_package_name name ≡ true → IsTail tail → is_component (name ++ tail) ≡ true
component name tail is at =
    let n = length-append name tail in
    both (not (bytes_eq (name ++ tail) [])) _ (shorter (name ++ tail) [] (omega (arith, n, at.long)))
    (both (not (bytes_eq (name ++ tail) (codes "."))) _ (shorter (name ++ tail) (codes ".") (omega (arith, n, at.long)))
    (both (not (bytes_eq (name ++ tail) (codes ".."))) _ (shorter (name ++ tail) (codes "..") (omega (arith, n, at.long)))
    (both (not (has_break (name ++ tail))) (nat_le (length (name ++ tail)) 255)
    (ap not (list_any-append _ name tail ∙ ap (λ b. b || has_break tail) (no_sign (λ b. nat_eq b 10 || nat_eq b 0) no_break name (signs_of_name name is)) ∙ at.plain))
    (le-leb (length (name ++ tail)) 255 (omega (arith, n, few name is, at.short))))))

in_info : (name tail : List ℕ) → is_package_name name ≡ true → IsTail tail → is_path (info_path ++ 47 ∷ (name ++ tail)) ≡ true
in_info name tail is at =
    child_is_path info_path (name ++ tail) refl (component name tail is at)
    (list_any-append is_slash name tail ∙ ap (λ b. b || list_any is_slash tail) (no_sign is_slash no_slash name (signs_of_name name is)) ∙ at.free)
    (omega (arith, length-append name tail, few name is, at.short))

-- the file list

pub list_is_path : (name : List ℕ) → is_package_name name ≡ true → is_path (list_path name) ≡ true
list_is_path name is = in_info name (codes ".list") is record { long = omega arith; short = omega arith; plain = refl; free = refl }

pub list_spare_is_path : (name : List ℕ) → is_package_name name ≡ true → is_path (temporary (list_path name)) ≡ true
list_spare_is_path name is =
    subst (λ (p : Path). is_path (info_file p) ≡ true) (sym (append_assoc name (codes ".list") (codes ".dpkg-inst")))
    (in_info name (codes ".list.dpkg-inst") is record { long = omega arith; short = omega arith; plain = refl; free = refl })

-- a stored script

script_tail : (script : Script) → IsTail (46 ∷ script_name script)
script_tail Preinst = record { long = omega arith; short = omega arith; plain = refl; free = refl }
script_tail Postinst = record { long = omega arith; short = omega arith; plain = refl; free = refl }
script_tail Prerm = record { long = omega arith; short = omega arith; plain = refl; free = refl }
script_tail Postrm = record { long = omega arith; short = omega arith; plain = refl; free = refl }

script_spare_tail : (script : Script) → IsTail ((46 ∷ script_name script) ++ codes ".dpkg-inst")
script_spare_tail Preinst = record { long = omega arith; short = omega arith; plain = refl; free = refl }
script_spare_tail Postinst = record { long = omega arith; short = omega arith; plain = refl; free = refl }
script_spare_tail Prerm = record { long = omega arith; short = omega arith; plain = refl; free = refl }
script_spare_tail Postrm = record { long = omega arith; short = omega arith; plain = refl; free = refl }

pub script_is_path : (name : List ℕ) (script : Script) → is_package_name name ≡ true → is_path (script_path name script) ≡ true
script_is_path name script is = in_info name (46 ∷ script_name script) is (script_tail script)

pub script_spare_is_path : (name : List ℕ) (script : Script) → is_package_name name ≡ true → is_path (temporary (script_path name script)) ≡ true
script_spare_is_path name script is =
    subst (λ (p : Path). is_path (info_file p) ≡ true) (sym (append_assoc name (46 ∷ script_name script) (codes ".dpkg-inst")))
    (in_info name ((46 ∷ script_name script) ++ codes ".dpkg-inst") is (script_spare_tail script))

-- a script of the incoming tree

pub tmp_script_spare_is_path : (script : Script) → is_path (temporary (tmp_script_path script)) ≡ true
tmp_script_spare_is_path Preinst = refl
tmp_script_spare_is_path Postinst = refl
tmp_script_spare_is_path Prerm = refl
tmp_script_spare_is_path Postrm = refl
