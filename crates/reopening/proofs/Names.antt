-- The names under which a unit writes in `info`: no opening refuses them, none has an architecture, and other entries are none of a package's.
use Rattle.std.proofs.Common.{◌≡◌, ◌≢◌, ◌&&◌, ◌||◌, ◌⊎◌, inl, inr, ℕ, Bool, true, false, not, [], ◌∷◌, ◌++◌, codes, drop, nat_eq, get_or, refl, sym, ap, subst, ◌∙◌, arith}
use Rattle.std.specs.List.{ends_with, list_all, list_any}
use Rattle.std.specs.Str.{IsUtf8}
use Rattle.std.proofs.lemmas.Bool.{and_parts, eqb-true, true≢false}
use Rattle.std.proofs.lemmas.List.Folds.{list_any-append}
use Rattle.std.proofs.lemmas.Str.{IsUtf8-append, IsUtf8-from_ascii}
use Rattle.texts.specs.PackageNames.{is_name_sign, is_package_name}
use Rattle.texts.proofs.PackageNames.{signs_ascii, signs_of_name}
use Rattle.host_core.specs.Paths.{Path, is_path}
use Rattle.host_core.specs.Tree.{IsOdd}
use Rattle.administration.specs.Places.{diversions_path, info_path, list_name, temporary}
use Rattle.administration.proofs.NamePaths.{list_is_path, list_spare_is_path}
use Rattle.control_members.specs.Names.{is_member_name, is_member_sign}
use Rattle.control_members.proofs.MemberNames.{signs_of, stored_is_path, stored_spare_is_path, stored_utf8}
use Rattle.file_lists.specs.Info.{entry_path}
use Rattle.info_format.specs.Stage.{is_long}
use Rattle.reopening.proofs.Inside.{IsInside, IsOthers, IsUnnamed}

-- a name under which a unit may write: text that makes a path, without a colon
record IsTame (entry : Path) : Type 0 where
  text : IsUtf8 entry
  fits : is_path (entry_path entry) ≡ true
  colonless : list_any (λ b. nat_eq b 58) entry ≡ false

-- one under which it doesn't: an opening may refuse it, or it may have an architecture
abbrev pub IsStrange : Path → Type 0
IsStrange entry = IsOdd info_path entry ⊎ (is_long entry ≡ true)

tame_or_strange : (entry : Path) → IsTame entry → IsStrange entry → ⊥
tame_or_strange entry tame (inl (inl no_text)) = no_text tame.text
tame_or_strange entry tame (inl (inr no_path)) = true≢false (sym tame.fits ∙ no_path)
tame_or_strange entry tame (inr long) = true≢false (sym long ∙ ap (λ b. b && not (ends_with nat_eq entry (codes ".dpkg-inst"))) tame.colonless)

strange_apart : (entry other : Path) → IsStrange entry → IsTame other → entry_path entry ≢ entry_path other
strange_apart entry other strange tame e = let same : entry ≡ other = ap (λ (l : Path). drop 19 l) e in tame_or_strange other tame (subst IsStrange same strange)

no_sign : (P : ℕ → Bool) (s b : ℕ) (t : Bool) → P s ≡ false → nat_eq b s ≡ t → P b ≡ true → t ≡ false
no_sign P s b true none e sign = absurd (true≢false (sym sign ∙ ap P (eqb-true b s e) ∙ none))
no_sign P s b false none e sign = refl

without : (P : ℕ → Bool) (s : ℕ) → P s ≡ false → (name : Path) → list_all P name ≡ true → list_any (λ b. nat_eq b s) name ≡ false
without P s none [] e = refl
without P s none (b ∷ bs) e =
    let parts = and_parts (P b) (list_all P bs) e in
    ap (λ t. t || list_any (λ b. nat_eq b s) bs) (no_sign P s b (nat_eq b s) none refl parts.0) ∙ without P s none bs parts.1

colonless-append : (a b : Path) → list_any (λ x. nat_eq x 58) a ≡ false → list_any (λ x. nat_eq x 58) b ≡ false → list_any (λ x. nat_eq x 58) (a ++ b) ≡ false
colonless-append a b first second = list_any-append (λ x. nat_eq x 58) a b ∙ ap (λ t. t || list_any (λ x. nat_eq x 58) b) first ∙ second

suffix_text : IsUtf8 (codes ".dpkg-inst")
suffix_text = IsUtf8-from_ascii (codes ".dpkg-inst") (signs_ascii (codes ".dpkg-inst") refl)

module _ (name : Path) (named : is_package_name name ≡ true) where
  name_text : IsUtf8 name
  name_text = IsUtf8-from_ascii name (signs_ascii name (signs_of_name name named))

  name_colonless : list_any (λ b. nat_eq b 58) name ≡ false
  name_colonless = without is_name_sign 58 refl name (signs_of_name name named)

  list_tame : IsTame (list_name name)
  list_tame = record {
    text = IsUtf8-append name (codes ".list") name_text (IsUtf8-from_ascii (codes ".list") (signs_ascii (codes ".list") refl));
    fits = list_is_path name named;
    colonless = colonless-append name (codes ".list") name_colonless refl;
  }

  list_spare_tame : IsTame (list_name name ++ codes ".dpkg-inst")
  list_spare_tame = record {
    text = IsUtf8-append (list_name name) (codes ".dpkg-inst") list_tame.text suffix_text;
    fits = list_spare_is_path name named;
    colonless = colonless-append (list_name name) (codes ".dpkg-inst") list_tame.colonless refl;
  }

  member_tame : (member : Path) → is_member_name member ≡ true → IsTame (name ++ 46 ∷ member)
  member_tame member is = record {
    text = stored_utf8 name member named is;
    fits = stored_is_path name member named is;
    colonless = colonless-append name (46 ∷ member) name_colonless (without is_member_sign 58 refl member (signs_of member is));
  }

  member_spare_tame : (member : Path) → is_member_name member ≡ true → IsTame ((name ++ 46 ∷ member) ++ codes ".dpkg-inst")
  member_spare_tame member is = record {
    text = IsUtf8-append (name ++ 46 ∷ member) (codes ".dpkg-inst") (member_tame member is).text suffix_text;
    fits = stored_spare_is_path name member named is;
    colonless = colonless-append (name ++ 46 ∷ member) (codes ".dpkg-inst") (member_tame member is).colonless refl;
  }

  strange_others : (entry : Path) → IsStrange entry → IsOthers name (entry_path entry)
  strange_others entry strange = record {
    list = (strange_apart entry (list_name name) strange list_tame, strange_apart entry (list_name name ++ codes ".dpkg-inst") strange list_spare_tame);
    members = λ member is. (
      strange_apart entry (name ++ 46 ∷ member) strange (member_tame member is),
      strange_apart entry ((name ++ 46 ∷ member) ++ codes ".dpkg-inst") strange (member_spare_tame member is),
    );
  }

-- such an entry is none of a package's
pub strange_unnamed : (entry : Path) → IsStrange entry → IsUnnamed (entry_path entry)
strange_unnamed entry strange = record {
  inside = record { own = refl; below = refl; unnoted = refl; outside = refl };
  others = λ name named. strange_others name named entry strange;
}

-- nor is the directory, or the file of the diversions, or its temporary name

unnamed_by : (q : Path) → IsInside q → ((rest : Path) → q ≢ info_path ++ 47 ∷ rest) → IsUnnamed q
unnamed_by q inside other = record {
  inside = inside;
  others = λ name named. record {
    list = (other (list_name name), other (list_name name ++ codes ".dpkg-inst"));
    members = λ member is. (other (name ++ 46 ∷ member), other ((name ++ 46 ∷ member) ++ codes ".dpkg-inst"));
  };
}

apart_by : (q : Path) (rest : Path) → get_or q 14 0 ≢ get_or (info_path ++ 47 ∷ rest) 14 0 → q ≢ info_path ++ 47 ∷ rest
apart_by q rest apart e = apart (ap (λ (l : Path). get_or l 14 0) e)

pub diversions_unnamed : IsUnnamed diversions_path
diversions_unnamed = unnamed_by diversions_path (record { own = refl; below = refl; unnoted = refl; outside = refl }) (λ rest. apart_by diversions_path rest (λ e. absurd (omega (arith, e))))

pub spare_unnamed : IsUnnamed (temporary diversions_path)
spare_unnamed = unnamed_by (temporary diversions_path) (record { own = refl; below = refl; unnoted = refl; outside = refl }) (λ rest. apart_by (temporary diversions_path) rest (λ e. absurd (omega (arith, e))))

pub info_unnamed : IsUnnamed info_path
info_unnamed = unnamed_by info_path (record { own = refl; below = refl; unnoted = refl; outside = refl }) (λ rest e.
    let none : 0 ≡ 47 = ap (λ (l : Path). get_or l 18 0) e in absurd (omega (arith, none)))
