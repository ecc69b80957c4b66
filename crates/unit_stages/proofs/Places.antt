-- Which places in the administration a part may change: those of records, or names in `info`.
use Rattle.std.proofs.Common.{◌≡◌, ◌≢◌, ◌||◌, inl, inr, ℕ, true, false, ◌∷◌, ◌++◌, codes, get_or, nat_eq, refl, sym, ap, subst, ◌∙◌, arith}
use Rattle.std.specs.List.{starts_with}
use Rattle.std.specs.Str.{bytes_eq}
use Rattle.std.proofs.lemmas.Bool.{or_cases}
use Rattle.std.proofs.lemmas.Slice.Eq.{bytes_eq-Decides}
use Rattle.texts.specs.PackageNames.{is_package_name}
use Rattle.texts.proofs.PackageNames.{signs_of_name}
use Rattle.host_core.specs.Paths.{Path}
use Rattle.host_core.specs.Tree.{has_slash}
use Rattle.host_core.specs.World.{World, IsDirectory, SameOn}
use Rattle.administration.specs.Places.{home_path, info_path, is_within, list_name, list_path, status_path, temporary, updates_path}
use Rattle.administration.proofs.Within.{below_within, rest_of}
use Rattle.control_members.specs.Stored.{IsMembersReady, KeepsBesideMembers}
use Rattle.control_members.proofs.MemberNames.{plain-append, stored_name_plain}
use Rattle.file_lists.specs.Info.{AreLoose}
use Rattle.file_lists.specs.Writing.{IsListReady}
use Rattle.status_db.specs.Held.{CanOpenRecords, IsKept, is_record_place}
use Rattle.status_db.specs.Recorded.{Recorded}
use Rattle.status_db.proofs.NotePaths.{signs_no_slash}
use Rattle.status_db.proofs.NotedWorlds.{kept_on}

-- the first byte of a name in the directory of the administration: `i` for what is in `info`
abbrev pub byte : Path → ℕ
byte p = get_or p 14 0

-- all within the administration is as before, but `info` and what is in it
pub record Stays (old now : World) : Type 0 where
  pub same : (q : Path) → is_within home_path q ≡ true → (byte q ≡ 105 → ⊥) → now q ≡ old q

pub record_within : (q : Path) → is_record_place q ≡ true → (is_within home_path q ≡ true) × (byte q ≡ 105 → ⊥)
record_within q is = elim (or_cases (bytes_eq q status_path) (bytes_eq q (temporary status_path) || starts_with nat_eq q (updates_path ++ codes "/")) is) [
  | inl e ↦ at status_path ((bytes_eq-Decides q status_path).0 e) refl (λ b. absurd (omega (arith, b)))
  | inr more ↦ elim (or_cases (bytes_eq q (temporary status_path)) (starts_with nat_eq q (updates_path ++ codes "/")) more) [
    | inl e ↦ at (temporary status_path) ((bytes_eq-Decides q (temporary status_path)).0 e) refl (λ b. absurd (omega (arith, b)))
    | inr below ↦
        let rest = rest_of q (updates_path ++ codes "/") below in
        at (updates_path ++ 47 ∷ rest.0) rest.1 (below_within home_path (codes "updates/" ++ rest.0)) (λ b. absurd (omega (arith, b)))
  ]
]
  where
    at : (p : Path) → q ≡ p → is_within home_path p ≡ true → (byte p ≡ 105 → ⊥) → (is_within home_path q ≡ true) × (byte q ≡ 105 → ⊥)
    at p e within other = (ap (is_within home_path) e ∙ within, λ b. other (sym (ap byte e) ∙ b))

pub kept_stays : (d : Recorded) (old now : World) → Stays old now → IsKept d old → IsKept d now
kept_stays d old now stays kept = kept_on old now d.records d.notes (λ q is. (let r = record_within q is in stays.same q r.0 r.1))
    (subst IsDirectory (sym (stays.same home_path refl (λ b. absurd (omega (arith, b))))) kept.unblocked.home)
    (subst IsDirectory (sym (stays.same updates_path refl (λ b. absurd (omega (arith, b))))) kept.unblocked.updates) kept

pub kept_same : (d : Recorded) (v w : World) → SameOn is_record_place v w → w home_path ≡ v home_path → w updates_path ≡ v updates_path → IsKept d v → IsKept d w
kept_same d v w same home updates kept =
    kept_on v w d.records d.notes same (subst IsDirectory (sym home) kept.unblocked.home) (subst IsDirectory (sym updates) kept.unblocked.updates) kept

pub kept_opens : (d : Recorded) (w : World) → IsKept d w → CanOpenRecords w
kept_opens d w kept = record { unblocked = kept.unblocked; table = d.records; records = kept.holds }

-- lists and control files are names in `info`

other_list : (name q : Path) → (byte q ≡ 105 → ⊥) → (q ≢ list_path name) × (q ≢ temporary (list_path name))
other_list name q other = (λ e. other (ap byte e), λ e. other (ap byte e))

pub listing_stays : (name : Path) (v w : World) → ((q : Path) → q ≢ list_path name → q ≢ temporary (list_path name) → w q ≡ v q) → Stays v w
listing_stays name v w rest = record { same = λ q within other. rest q (other_list name q other).0 (other_list name q other).1 }

pub members_stay : (owner : Path) (v w : World) → KeepsBesideMembers owner v w → Stays v w
members_stay owner v w rest = record { same = λ q within other. rest q (λ name member e. other (ap byte e)) }

-- what is in `info` is in the way of nothing, where no entry is a directory

list_plain : (name : Path) → is_package_name name ≡ true → has_slash (list_name name) ≡ false
list_plain name named = plain-append name (codes ".list") (signs_no_slash name (signs_of_name name named)) refl

module _ (w : World) (info : IsDirectory (w info_path)) (loose : AreLoose w) (name : Path) (named : is_package_name name ≡ true) where
  pub list_ready : IsListReady name w
  list_ready = record {
    info = info;
    target = loose (list_name name) (list_plain name named);
    spare = loose (list_name name ++ codes ".dpkg-inst") (plain-append (list_name name) (codes ".dpkg-inst") (list_plain name named) refl);
  }

  pub members_ready : IsMembersReady name w
  members_ready = record {
    info = info;
    own = λ member is. loose (name ++ 46 ∷ member) (stored_name_plain name member named is);
    spares = λ member is. loose ((name ++ 46 ∷ member) ++ codes ".dpkg-inst") (plain-append (name ++ 46 ∷ member) (codes ".dpkg-inst") (stored_name_plain name member named is) refl);
  }
