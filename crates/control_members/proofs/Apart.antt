-- A stored control file is told from another, and from other files, by the last dot of its name.
use Rattle.std.proofs.Common.{length, arith, ◌≡◌, ◌≢◌, ℕ, Bool, true, false, nat_eq, [], ◌∷◌, ◌++◌, get_or, drop, codes, refl, sym, ap, ◌∙◌, append_assoc}
use Rattle.std.specs.List.{list_any}
use Rattle.std.specs.Str.{bytes_eq}
use Rattle.std.proofs.lemmas.Bool.{true≢false, or_right}
use Rattle.std.proofs.lemmas.List.{append_cancel_left, append_cancel_right}
use Rattle.std.proofs.lemmas.List.Folds.{list_any-append}
use Rattle.host_core.specs.Paths.{Path}
use Rattle.administration.specs.Places.{info_path, info_file, list_path, temporary}
use Rattle.administration.proofs.Within.{directory_differs}
use Rattle.control_members.specs.Names.{is_member_name, other_uses}
use Rattle.control_members.specs.Stored.{stored_member_path}
use Rattle.control_members.specs.LaidOut.{laid_path}
use Rattle.control_members.proofs.MemberNames.{dotless, no_other_use}

abbrev is_dot : ℕ → Bool
is_dot b = nat_eq b 46

dot_within : (b y : Path) → list_any is_dot (b ++ 46 ∷ y) ≡ true
dot_within b y = list_any-append is_dot b (46 ∷ y) ∙ or_right (list_any is_dot b) (list_any is_dot (46 ∷ y)) refl

no_dot_within : (x b y : Path) → list_any is_dot x ≡ false → x ≡ b ++ 46 ∷ y → ⊥
no_dot_within x b y free e = true≢false (sym (dot_within b y) ∙ ap (list_any is_dot) (sym e) ∙ free)

-- what stands before the last dot, and behind it
pub last_dot : (a b x y : Path) → list_any is_dot x ≡ false → list_any is_dot y ≡ false → a ++ 46 ∷ x ≡ b ++ 46 ∷ y → (a ≡ b) × (x ≡ y)
last_dot [] [] x y first second e = (refl, ap (drop 1) e)
last_dot [] (d ∷ b) x y first second e = absurd (no_dot_within x b y first (ap (drop 1) e))
last_dot (c ∷ a) [] x y first second e = absurd (no_dot_within y a x second (sym (ap (drop 1) e)))
last_dot (c ∷ a) (d ∷ b) x y first second e =
    let rest = last_dot a b x y first second (ap (drop 1) e) in
    (ap (λ (l : Path). c ∷ l) rest.0 ∙ ap (λ h. h ∷ b) (ap (λ (l : Path). get_or l 0 0) e), rest.1)

in_info : (s t : Path) → info_file s ≡ info_file t → s ≡ t
in_info s t e = ap (drop 19) e

-- another package's, or another

pub same_stored : (owner other name word : Path) → is_member_name name ≡ true → is_member_name word ≡ true → stored_member_path owner name ≡ stored_member_path other word → (owner ≡ other) × (name ≡ word)
same_stored owner other name word member more e = last_dot owner other name word (dotless name member) (dotless word more) (in_info (owner ++ 46 ∷ name) (other ++ 46 ∷ word) e)

pub same_behind : (owner name word : Path) → owner ++ 46 ∷ name ≡ owner ++ 46 ∷ word → name ≡ word
same_behind owner name word e = ap (drop 1) (append_cancel_left owner (46 ∷ name) (46 ∷ word) e)

pub same_name : (owner name word : Path) → stored_member_path owner name ≡ stored_member_path owner word → name ≡ word
same_name owner name word e = same_behind owner name word (in_info (owner ++ 46 ∷ name) (owner ++ 46 ∷ word) e)

-- a name with another use is none of a control file
other_use : (name word : Path) → is_member_name name ≡ true → list_any (bytes_eq word) other_uses ≡ true → name ≡ word → ⊥
other_use name word member used e = true≢false (sym used ∙ ap (λ n. list_any (bytes_eq n) other_uses) (sym e) ∙ no_other_use name member)

pub no_list : (owner other name : Path) → is_member_name name ≡ true → stored_member_path owner name ≢ list_path other
no_list owner other name member e =
    other_use name (codes "list") member refl (last_dot owner other name (codes "list") (dotless name member) refl (in_info (owner ++ 46 ∷ name) (other ++ 46 ∷ codes "list") e)).1

pub no_temporary : (owner name path : Path) → is_member_name name ≡ true → stored_member_path owner name ≢ temporary path
no_temporary owner name path member e =
    other_use name (codes "dpkg-inst") member refl
    (last_dot (info_file owner) path name (codes "dpkg-inst") (dotless name member) refl (append_assoc (codes "/var/lib/dpkg/info/") owner (46 ∷ name) ∙ e)).1

-- so a temporary name is none of these
pub spare_apart : (owner name word : Path) → is_member_name name ≡ true → temporary (stored_member_path owner word) ≡ stored_member_path owner name → ⊥
spare_apart owner name word member e = no_temporary owner name (stored_member_path owner word) member (sym e)

pub same_temporary : (owner name word : Path) → temporary (stored_member_path owner name) ≡ temporary (stored_member_path owner word) → name ≡ word
same_temporary owner name word e = same_name owner name word (append_cancel_right (stored_member_path owner name) (stored_member_path owner word) (codes ".dpkg-inst") e)

-- the directory is none of them

pub info_other : (owner name : Path) → info_path ≢ stored_member_path owner name
info_other owner name = directory_differs info_path (owner ++ 46 ∷ name)

pub info_no_temporary : (owner name : Path) → info_path ≢ temporary (stored_member_path owner name)
info_no_temporary owner name = directory_differs info_path ((owner ++ 46 ∷ name) ++ codes ".dpkg-inst")

-- in `tmp.ci`

pub same_laid : (name word : Path) → laid_path name ≡ laid_path word → name ≡ word
same_laid name word e = ap (drop 21) e

pub spare_is_no_name : (word : Path) → is_member_name (word ++ codes ".dpkg-inst") ≡ true → ⊥
spare_is_no_name word member = no_dot_within (word ++ codes ".dpkg-inst") word (codes "dpkg-inst") (dotless (word ++ codes ".dpkg-inst") member) refl

-- a list's name ends otherwise than a temporary one
pub no_list_temporary : (other path : Path) → list_path other ≢ temporary path
no_list_temporary other path e =
    let same : codes "list" ≡ codes "dpkg-inst" = (last_dot (info_file other) path (codes "list") (codes "dpkg-inst") refl refl (append_assoc (codes "/var/lib/dpkg/info/") other (46 ∷ codes "list") ∙ e)).1 in
    absurd (omega (arith, ap length same))

pub same_of_temporaries : (first second : Path) → temporary first ≡ temporary second → first ≡ second
same_of_temporaries first second e = append_cancel_right first second (codes ".dpkg-inst") e
