-- The names of control files: their signs, and the paths that they make.
use Rattle.std.proofs.Common.{◌≡◌, ◌&&◌, ◌||◌, not, ℕ, ◌<◌, ◌≤◌, Bool, true, false, List, [], ◌∷◌, ◌++◌, length, codes, nat_eq, refl, sym, ap, subst, ◌∙◌, arith, Contains, zero, suc}
use Rattle.std.specs.Prelude.{nat_le}
use Rattle.std.specs.List.{list_any, list_all}
use Rattle.std.specs.Str.{bytes_eq, IsUtf8}
use Rattle.std.proofs.lemmas.Bool.{and_parts, false_from_ne_true, true≢false, leb-true, le-leb, eqb-true, not-true}
use Rattle.std.proofs.lemmas.Bool.Decides.{nat_tests}
use Rattle.std.proofs.lemmas.List.{length-append}
use Rattle.std.proofs.lemmas.List.Folds.{list_any-append}
use Rattle.std.proofs.lemmas.List.Sums.{AllPass-from_list_all}
use Rattle.std.proofs.lemmas.Slice.Eq.{bytes_eq-Decides}
use Rattle.std.proofs.lemmas.Str.{IsUtf8-from_ascii}
use Rattle.std.proofs.lemmas.Str.Ascii.{IsAscii-from_all}
use Rattle.texts.specs.PackageNames.{is_name_sign, is_package_name}
use Rattle.texts.proofs.PackageNames.{signs_of_name}
use Rattle.host_core.specs.Paths.{Path, has_break, is_component, is_path}
use Rattle.host_core.specs.Tree.{has_slash}
use Rattle.host_core.specs.Outcome.{script_name}
use Rattle.host_core.specs.declared.call.Script.{Script}
use Rattle.host_core.specs.declared.call.Script.TheVariants.{Preinst, Postinst, Prerm, Postrm}
use Rattle.host_core.proofs.PathLaws.{child_is_path}
use Rattle.administration.specs.Places.{info_path, tmp_path, temporary}
use Rattle.control_members.specs.Names.{is_member_sign, other_uses, is_member_name}
use Rattle.control_members.specs.Stored.{stored_member_path, AreMemberNames}
use Rattle.control_members.specs.LaidOut.{laid_path}

-- what a name is
pub some_bytes : (name : Path) → is_member_name name ≡ true → 1 ≤ length name
some_bytes name is = leb-true 1 (length name) (and_parts (nat_le 1 (length name)) _ is).0

pub few_bytes : (name : Path) → is_member_name name ≡ true → length name ≤ 44
few_bytes name is = leb-true (length name) 44 (and_parts (nat_le (length name) 44) _ (and_parts (nat_le 1 (length name)) _ is).1).0

signs_and_use : (name : Path) → is_member_name name ≡ true → (list_all is_member_sign name && not (list_any (bytes_eq name) other_uses)) ≡ true
signs_and_use name is = (and_parts (nat_le (length name) 44) _ (and_parts (nat_le 1 (length name)) _ is).1).1

pub signs_of : (name : Path) → is_member_name name ≡ true → list_all is_member_sign name ≡ true
signs_of name is = (and_parts (list_all is_member_sign name) _ (signs_and_use name is)).0

pub no_other_use : (name : Path) → is_member_name name ≡ true → list_any (bytes_eq name) other_uses ≡ false
no_other_use name is = not-true (list_any (bytes_eq name) other_uses) (and_parts (list_all is_member_sign name) _ (signs_and_use name is)).1

-- a byte that isn't among the signs

no_sign : (P : ℕ → Bool) (s b : ℕ) (t : Bool) → P s ≡ false → nat_eq b s ≡ t → P b ≡ true → t ≡ false
no_sign P s b true none e sign = absurd (true≢false (sym sign ∙ ap P (eqb-true b s e) ∙ none))
no_sign P s b false none e sign = refl

without : (P : ℕ → Bool) (s : ℕ) → P s ≡ false → (name : Path) → list_all P name ≡ true → list_any (λ b. nat_eq b s) name ≡ false
without P s none [] e = refl
without P s none (b ∷ bs) e =
    let parts = and_parts (P b) (list_all P bs) e in
    ap (λ t. t || list_any (λ b. nat_eq b s) bs) (no_sign P s b (nat_eq b s) none refl parts.0) ∙ without P s none bs parts.1

unbroken : (P : ℕ → Bool) → P 10 ≡ false → P 0 ≡ false → (name : Path) → list_all P name ≡ true → has_break name ≡ false
unbroken P ten nul [] e = refl
unbroken P ten nul (b ∷ bs) e =
    let parts = and_parts (P b) (list_all P bs) e in
    ap (λ t. (t || nat_eq b 0) || has_break bs) (no_sign P 10 b (nat_eq b 10) ten refl parts.0)
    ∙ ap (λ t. t || has_break bs) (no_sign P 0 b (nat_eq b 0) nul refl parts.0) ∙ unbroken P ten nul bs parts.1

pub member_plain : (name : Path) → is_member_name name ≡ true → has_slash name ≡ false
member_plain name is = without is_member_sign 47 refl name (signs_of name is)

pub dotless : (name : Path) → is_member_name name ≡ true → list_any (λ b. nat_eq b 46) name ≡ false
dotless name is = without is_member_sign 46 refl name (signs_of name is)

member_unbroken : (name : Path) → is_member_name name ≡ true → has_break name ≡ false
member_unbroken name is = unbroken is_member_sign refl refl name (signs_of name is)

package_plain : (owner : Path) → is_package_name owner ≡ true → has_slash owner ≡ false
package_plain owner is = without is_name_sign 47 refl owner (signs_of_name owner is)

package_unbroken : (owner : Path) → is_package_name owner ≡ true → has_break owner ≡ false
package_unbroken owner is = unbroken is_name_sign refl refl owner (signs_of_name owner is)

package_few : (owner : Path) → is_package_name owner ≡ true → length owner ≤ 200
package_few owner is = leb-true (length owner) 200 (and_parts (nat_le (length owner) 200) _ (and_parts (nat_le 2 (length owner)) _ is).1).0

-- two texts in one

pub plain-append : (a b : Path) → has_slash a ≡ false → has_slash b ≡ false → has_slash (a ++ b) ≡ false
plain-append a b first second = list_any-append (λ x. nat_eq x 47) a b ∙ ap (λ t. t || has_slash b) first ∙ second

unbroken-append : (a b : Path) → has_break a ≡ false → has_break b ≡ false → has_break (a ++ b) ≡ false
unbroken-append a b first second = list_any-append (λ x. nat_eq x 10 || nat_eq x 0) a b ∙ ap (λ t. t || has_break b) first ∙ second

-- components

shorter : (t u : Path) → length u < length t → not (bytes_eq t u) ≡ true
shorter t u less = ap not (false_from_ne_true (bytes_eq t u) (λ same. absurd (omega (arith, less, ap length ((bytes_eq-Decides t u).0 same)))))

both : (a b : Bool) → a ≡ true → b ≡ true → a && b ≡ true
both true b first second = second
both false b first second = absurd (true≢false (sym first))

apart_from : (t u : Path) → (t ≡ u → ⊥) → not (bytes_eq t u) ≡ true
apart_from t u differs = ap not (false_from_ne_true (bytes_eq t u) (λ same. differs ((bytes_eq-Decides t u).0 same)))

component_of : (text : Path) → 0 < length text → (text ≡ codes "." → ⊥) → (text ≡ codes ".." → ⊥) → length text ≤ 255 → has_break text ≡ false → is_component text ≡ true
component_of text some one two few whole =
    both (not (bytes_eq text [])) _ (shorter text [] some)
    (both (not (bytes_eq text (codes "."))) _ (apart_from text (codes ".") one)
    (both (not (bytes_eq text (codes ".."))) _ (apart_from text (codes "..") two)
    (both (not (has_break text)) (nat_le (length text) 255) (ap not whole) (le-leb (length text) 255 few))))

long_component : (text : Path) → 2 < length text → length text ≤ 255 → has_break text ≡ false → is_component text ≡ true
long_component text long few whole =
    component_of text (omega (arith, long)) (λ e. absurd (omega (arith, long, ap length e))) (λ e. absurd (omega (arith, long, ap length e))) few whole

-- where control files are stored

module _ (owner name : Path) (named : is_package_name owner ≡ true) (member : is_member_name name ≡ true) where
  stored_plain : has_slash (owner ++ 46 ∷ name) ≡ false
  stored_plain = plain-append owner (46 ∷ name) (package_plain owner named) (member_plain name member)

  stored_unbroken : has_break (owner ++ 46 ∷ name) ≡ false
  stored_unbroken = unbroken-append owner (46 ∷ name) (package_unbroken owner named) (member_unbroken name member)

  two_bytes : 2 ≤ length owner
  two_bytes = leb-true 2 (length owner) (and_parts (nat_le 2 (length owner)) _ named).0

  pub stored_is_path : is_path (stored_member_path owner name) ≡ true
  stored_is_path =
      let few = package_few owner named in
      let short = few_bytes name member in
      let long = length-append owner (46 ∷ name) in
      child_is_path info_path (owner ++ 46 ∷ name) refl
      (long_component (owner ++ 46 ∷ name) (omega (arith, two_bytes, long)) (omega (arith, few, short, long)) stored_unbroken)
      stored_plain (omega (arith, few, short, long))

  pub stored_spare_is_path : is_path (temporary (stored_member_path owner name)) ≡ true
  stored_spare_is_path =
      let text = (owner ++ 46 ∷ name) ++ codes ".dpkg-inst" in
      let few = package_few owner named in
      let short = few_bytes name member in
      let long = length-append owner (46 ∷ name) in
      let longer = length-append (owner ++ 46 ∷ name) (codes ".dpkg-inst") in
      child_is_path info_path text refl
      (long_component text (omega (arith, two_bytes, long, longer)) (omega (arith, few, short, long, longer)) (unbroken-append (owner ++ 46 ∷ name) (codes ".dpkg-inst") stored_unbroken refl))
      (plain-append (owner ++ 46 ∷ name) (codes ".dpkg-inst") stored_plain refl) (omega (arith, few, short, long, longer))

-- where they are laid out

dots : (name : Path) (rest : Path) → is_member_name name ≡ true → name ≡ 46 ∷ rest → ⊥
dots name rest member e = true≢false (sym (ap (list_any (λ b. nat_eq b 46)) e) ∙ dotless name member)

pub laid_is_path : (name : Path) → is_member_name name ≡ true → is_path (laid_path name) ≡ true
laid_is_path name member =
    let some = some_bytes name member in
    let short = few_bytes name member in
    child_is_path tmp_path name refl
    (component_of name (omega (arith, some)) (dots name [] member) (dots name (codes ".") member) (omega (arith, short)) (member_unbroken name member))
    (member_plain name member) (omega (arith, short))

pub laid_spare_is_path : (name : Path) → is_member_name name ≡ true → is_path (temporary (laid_path name)) ≡ true
laid_spare_is_path name member =
    let text = name ++ codes ".dpkg-inst" in
    let short = few_bytes name member in
    let long = length-append name (codes ".dpkg-inst") in
    child_is_path tmp_path text refl
    (long_component text (omega (arith, long)) (omega (arith, short, long)) (unbroken-append name (codes ".dpkg-inst") (member_unbroken name member) refl))
    (plain-append name (codes ".dpkg-inst") (member_plain name member) refl) (omega (arith, short, long))

-- texts

sign_ascii : (b : ℕ) → is_member_sign b ≡ true → b < 128
sign_ascii b h = grind (arith, nat_tests)

name_sign_ascii : (b : ℕ) → is_name_sign b ≡ true → b < 128
name_sign_ascii b h = grind (arith, nat_tests)

abbrev is_low : ℕ → Bool
is_low b = nat_le b 127

all_low : (P : ℕ → Bool) → ((b : ℕ) → P b ≡ true → b < 128) → (name : Path) → list_all P name ≡ true → list_all is_low name ≡ true
all_low P low [] e = refl
all_low P low (b ∷ bs) e =
    let parts = and_parts (P b) (list_all P bs) e in
    let less = low b parts.0 in
    both (is_low b) (list_all is_low bs) (le-leb b 127 (omega (arith, less))) (all_low P low bs parts.1)

low-append : (a b : Path) → list_all is_low a ≡ true → list_all is_low b ≡ true → list_all is_low (a ++ b) ≡ true
low-append [] b first second = second
low-append (x ∷ a) b first second =
    let parts = and_parts (is_low x) (list_all is_low a) first in
    both (is_low x) (list_all is_low (a ++ b)) parts.0 (low-append a b parts.1 second)

low_ascii : (b : ℕ) → is_low b ≡ true → b < 128
low_ascii b e = let less = leb-true b 127 e in omega (arith, less)

pub stored_utf8 : (owner name : Path) → is_package_name owner ≡ true → is_member_name name ≡ true → IsUtf8 (owner ++ 46 ∷ name)
stored_utf8 owner name named member =
    let all = low-append owner (46 ∷ name) (all_low is_name_sign name_sign_ascii owner (signs_of_name owner named)) (both (is_low 46) (list_all is_low name) refl (all_low is_member_sign sign_ascii name (signs_of name member))) in
    IsUtf8-from_ascii (owner ++ 46 ∷ name) (IsAscii-from_all (owner ++ 46 ∷ name) (λ i d l. low_ascii _ (AllPass-from_list_all is_low (owner ++ 46 ∷ name) all i d l)))

pub stored_name_plain : (owner name : Path) → is_package_name owner ≡ true → is_member_name name ≡ true → has_slash (owner ++ 46 ∷ name) ≡ false
stored_name_plain owner name named member = stored_plain owner name named member

-- the scripts are control files
pub script_is_member : (script : Script) → is_member_name (script_name script) ≡ true
script_is_member Preinst = refl
script_is_member Postinst = refl
script_is_member Prerm = refl
script_is_member Postrm = refl

-- one of these names
pub member_among : (names : List Path) (name : Path) → AreMemberNames names → Contains names name → is_member_name name ≡ true
member_among [] name all has = absurd (omega (arith, has.1))
member_among (n ∷ names) name all (zero, lt, e) = subst (λ x. is_member_name x ≡ true) e all.0
member_among (n ∷ names) name all (suc k, lt, e) = member_among names name all.1 (k, omega (arith, lt), e)
