-- What stands in `info` behind a unit that leaves the entries of others: no opening refuses it.
use Rattle.std.proofs.Common.{◌≡◌, ◌≢◌, inl, inr, ℕ, true, false, List, ◌∷◌, ◌++◌, Contains, codes, drop, get_or, refl, sym, ap, subst, ◌∙◌, arith}
use Rattle.std.specs.Prelude.{IsSome}
use Rattle.std.specs.Str.{IsUtf8}
use Rattle.std.proofs.lemmas.Bool.{true≢false}
use Rattle.std.proofs.lemmas.Str.{IsUtf8-append, IsUtf8-from_ascii}
use Rattle.texts.specs.PackageNames.{is_package_name}
use Rattle.texts.proofs.PackageNames.{signs_ascii, signs_of_name}
use Rattle.host_core.specs.Paths.{Path, is_path}
use Rattle.host_core.specs.Tree.{IsOdd}
use Rattle.host_core.specs.World.{World}
use Rattle.administration.specs.Directories.{HasBadName}
use Rattle.administration.specs.Places.{diversions_path, info_path, list_name, temporary}
use Rattle.administration.proofs.NamePaths.{list_is_path, list_spare_is_path}
use Rattle.control_members.specs.Names.{is_member_name}
use Rattle.control_members.proofs.MemberNames.{stored_is_path, stored_utf8}
use Rattle.file_lists.specs.Info.{AreLoose, AreSound, entry_path}
use Rattle.file_lists.specs.Lists.{HasLists, IsReadable}
use Rattle.file_lists.specs.declared.paths.PackageList.{PackageList}
use Rattle.dpkg_session.proofs.Keeping.{IsOthers, KeepsUnnamed}

-- a name that no opening refuses: text that makes a path
record IsTame (entry : Path) : Type 0 where
  text : IsUtf8 entry
  fits : is_path (entry_path entry) ≡ true

tame_or_odd : (entry : Path) → IsTame entry → IsOdd info_path entry → ⊥
tame_or_odd entry tame (inl no_text) = no_text tame.text
tame_or_odd entry tame (inr no_path) = true≢false (sym tame.fits ∙ no_path)

odd_apart : (entry other : Path) → IsOdd info_path entry → IsTame other → entry_path entry ≢ entry_path other
odd_apart entry other odd tame e = let same : entry ≡ other = ap (λ (l : Path). drop 19 l) e in tame_or_odd other tame (subst (IsOdd info_path) same odd)

-- the names of lists and control files, and the temporary names of lists, are tame

module _ (name : Path) (named : is_package_name name ≡ true) where
  name_text : IsUtf8 name
  name_text = IsUtf8-from_ascii name (signs_ascii name (signs_of_name name named))

  list_tame : IsTame (list_name name)
  list_tame = record {
    text = IsUtf8-append name (codes ".list") name_text (IsUtf8-from_ascii (codes ".list") (signs_ascii (codes ".list") refl));
    fits = list_is_path name named;
  }

  list_spare_tame : IsTame (list_name name ++ codes ".dpkg-inst")
  list_spare_tame = record {
    text = IsUtf8-append (list_name name) (codes ".dpkg-inst") list_tame.text (IsUtf8-from_ascii (codes ".dpkg-inst") (signs_ascii (codes ".dpkg-inst") refl));
    fits = list_spare_is_path name named;
  }

  member_tame : (member : Path) → is_member_name member ≡ true → IsTame (name ++ 46 ∷ member)
  member_tame member is = record {
    text = stored_utf8 name member named is;
    fits = stored_is_path name member named is;
  }

  -- an entry that an opening may refuse is none of the package's
  odd_others : (entry : Path) → IsOdd info_path entry → IsOthers name (entry_path entry)
  odd_others entry odd = record {
    inside = record { own = refl; below = refl; unnoted = refl };
    list = (odd_apart entry (list_name name) odd list_tame, odd_apart entry (list_name name ++ codes ".dpkg-inst") odd list_spare_tame);
    members = λ member is. odd_apart entry (name ++ 46 ∷ member) odd (member_tame member is);
  }

module _ (old new : World) (keeps : KeepsUnnamed old new) where
  -- each name in it is text still
  pub text_kept : (HasBadName old info_path → ⊥) → HasBadName new info_path → ⊥
  text_kept text bad = text (bad.0, bad.1, bad.2, subst IsSome (keeps.stays (entry_path bad.0) (λ name named. odd_others name named bad.0 bad.2)) bad.3)

  -- each entry is sound, for packages of before
  pub sound_kept : (before after : List (List ℕ)) (lists : List PackageList) → ((q : List ℕ) → Contains after q → Contains before q) → AreSound old before → AreLoose new → HasLists new after lists → AreSound new after
  sound_kept before after lists known sound loose listed entry whole = record {
    loose = loose entry whole;
    list = λ of. subst (λ (x : Path). IsReadable (new (entry_path x))) (sym of.2) (listed.readable of.0 of.1);
    script = λ of link. (sound entry whole).script (of.0, of.1, known of.1 of.2, of.3) (keeps.links (entry_path entry) (record { own = refl; below = refl; unnoted = refl }) link);
  }

-- the file of the diversions, and its temporary name, are none of a package's

no_info : (q rest : Path) → get_or q 14 0 ≢ get_or (info_path ++ 47 ∷ rest) 14 0 → q ≢ info_path ++ 47 ∷ rest
no_info q rest apart e = apart (ap (λ (l : Path). get_or l 14 0) e)

pub diversions_others : (name : Path) → IsOthers name diversions_path
diversions_others name = record {
  inside = record { own = refl; below = refl; unnoted = refl };
  list = (no_info diversions_path (list_name name) (λ e. absurd (omega (arith, e))), no_info diversions_path (list_name name ++ codes ".dpkg-inst") (λ e. absurd (omega (arith, e))));
  members = λ member is. no_info diversions_path (name ++ 46 ∷ member) (λ e. absurd (omega (arith, e)));
}

pub diversions_spare_others : (name : Path) → IsOthers name (temporary diversions_path)
diversions_spare_others name = record {
  inside = record { own = refl; below = refl; unnoted = refl };
  list = (no_info (temporary diversions_path) (list_name name) (λ e. absurd (omega (arith, e))), no_info (temporary diversions_path) (list_name name ++ codes ".dpkg-inst") (λ e. absurd (omega (arith, e))));
  members = λ member is. no_info (temporary diversions_path) (name ++ 46 ∷ member) (λ e. absurd (omega (arith, e)));
}
