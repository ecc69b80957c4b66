-- What is in `info`, where no entry is a directory; and what stays of records that stand.
use Rattle.std.proofs.Common.{◌≡◌, true, false, ◌∷◌, ◌++◌, codes, refl, sym, subst, arith}
use Rattle.texts.specs.PackageNames.{is_package_name}
use Rattle.texts.proofs.PackageNames.{signs_of_name}
use Rattle.host_core.specs.Paths.{Path}
use Rattle.host_core.specs.World.{World, IsDirectory, SameOn}
use Rattle.host_core.specs.Tree.{has_slash}
use Rattle.administration.specs.Places.{home_path, info_path, list_name, updates_path}
use Rattle.control_members.specs.Stored.{IsMembersReady}
use Rattle.control_members.proofs.MemberNames.{plain-append, stored_name_plain}
use Rattle.file_lists.specs.Info.{AreLoose}
use Rattle.file_lists.specs.Writing.{IsListReady}
use Rattle.status_db.specs.Notes.{limit}
use Rattle.status_db.specs.Held.{CanOpenRecords, IsKept, is_record_place}
use Rattle.status_db.specs.Recorded.{Recorded}
use Rattle.status_db.proofs.NotePaths.{signs_no_slash}
use Rattle.status_db.proofs.NotedWorlds.{kept_on}

pub list_plain : (name : Path) → is_package_name name ≡ true → has_slash (list_name name) ≡ false
list_plain name named = plain-append name (codes ".list") (signs_no_slash name (signs_of_name name named)) refl

module _ (w : World) (info : IsDirectory (w info_path)) (loose : AreLoose w) where
  pub list_ready : (name : Path) → is_package_name name ≡ true → IsListReady name w
  list_ready name named = record {
    info = info;
    target = loose (list_name name) (list_plain name named);
    spare = loose (list_name name ++ codes ".dpkg-inst") (plain-append (list_name name) (codes ".dpkg-inst") (list_plain name named) refl);
  }

  pub members_ready : (name : Path) → is_package_name name ≡ true → IsMembersReady name w
  members_ready name named = record {
    info = info;
    own = λ member is. loose (name ++ 46 ∷ member) (stored_name_plain name member named is);
    spares = λ member is. loose ((name ++ 46 ∷ member) ++ codes ".dpkg-inst") (plain-append (name ++ 46 ∷ member) (codes ".dpkg-inst") (stored_name_plain name member named is) refl);
  }

-- what leaves the places of records, and the directories, leaves it to the next opening
pub opens_on : (v w : World) → SameOn is_record_place v w → w home_path ≡ v home_path → w updates_path ≡ v updates_path → CanOpenRecords v → CanOpenRecords w
opens_on v w same home updates opens =
    let kept = kept_on v w opens.table limit same (subst IsDirectory (sym home) opens.unblocked.home) (subst IsDirectory (sym updates) opens.unblocked.updates)
    (record { unblocked = opens.unblocked; holds = opens.records; free = λ n from below. absurd (omega (arith, from, below)) }) in
    record { unblocked = kept.unblocked; table = opens.table; records = kept.holds }

pub kept_opens : (d : Recorded) (w : World) → IsKept d w → CanOpenRecords w
kept_opens d w kept = record { unblocked = kept.unblocked; table = d.records; records = kept.holds }

pub kept_same : (d : Recorded) (v w : World) → SameOn is_record_place v w → w home_path ≡ v home_path → w updates_path ≡ v updates_path → IsKept d v → IsKept d w
kept_same d v w same home updates kept =
    kept_on v w d.records d.notes same (subst IsDirectory (sym home) kept.unblocked.home) (subst IsDirectory (sym updates) kept.unblocked.updates) kept
