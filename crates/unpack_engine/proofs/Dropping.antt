-- What stays when the list of a package without a record goes.
use Rattle.std.proofs.Common.{◌≡◌, inl, inr, Bool, true, false, List, [], Option, refl, sym, ap, ◌∙◌, arith}
use Rattle.std.proofs.lemmas.Bool.{false_from_ne_true, true≢false}
use Rattle.host_core.specs.Paths.{Path}
use Rattle.host_core.specs.World.{World, KeepsBut}
use Rattle.administration.specs.Places.{home_path, is_within, list_path, tmp_path, updates_path}
use Rattle.administration.proofs.Within.{within_is}
use Rattle.control_members.specs.LaidOut.{AreLaidOut}
use Rattle.control_members.specs.declared.member.Member.{Member}
use Rattle.control_members.proofs.LaidOut.{laid_elsewhere}
use Rattle.status_db.specs.Held.{CanOpenRecords, HasRecords, IsKept, is_record_place}
use Rattle.status_db.specs.Recorded.{Recorded}
use Rattle.status_records.specs.declared.record.Record.{Record}
use Rattle.status_db.proofs.NotedWorlds.{place_differs, records_on}
use Rattle.diversions.specs.Ways.{Ways}
use Rattle.file_lists.specs.declared.paths.PackageList.{PackageList}
use Rattle.unpack_commit.specs.Areas.{IsUntouched}
use Rattle.unpack_commit.specs.Commit.{Changes, HasCommitted}
use Rattle.unpack_commit.proofs.Left.{committed_keeps}
use Rattle.unpack_commit.proofs.Stays.{no_leaving_place}
use Rattle.listed_files.specs.Closing.{SparesAdministration}
use Rattle.listed_files.specs.Concluding.{AreElsewhere}
use Rattle.unpack_engine.specs.Units.{HasDropped}
use Rattle.unpack_engine.proofs.Apart.{tmp_beside}
use Rattle.unpack_engine.proofs.Begun.{byte, dropped_same, tmp_byte}
use Rattle.unpack_engine.proofs.Ready.{kept_opens, kept_same, opens_on}

module _ (reached : Bool) (found : Option Record) (name : Path) (v w : World) (dropped : HasDropped reached found name v w) where
  pub dropped_laid' : (members : List Member) → AreLaidOut members v → AreLaidOut members w
  dropped_laid' members laid = laid_elsewhere members v w (λ q within. dropped_same reached found name v w q dropped (tmp_beside name q within).unlisted) laid

  pub dropped_kept : (d : Recorded) → IsKept d v → IsKept d w
  dropped_kept d kept = kept_same d v w (λ q is. dropped_same reached found name v w q dropped (λ e. place_differs q (list_path name) is refl (sym e)))
      (dropped_same reached found name v w home_path dropped (λ e. absurd (omega (arith, ap byte e)))) (dropped_same reached found name v w updates_path dropped (λ e. absurd (omega (arith, ap byte e)))) kept

pub dropped_laid : (reached : Bool) (found : Option Record) (name : Path) (members : List Member) (v w : World) → HasDropped reached found name v w → AreLaidOut members v → AreLaidOut members w
dropped_laid reached found name members v w dropped laid = dropped_laid' reached found name v w dropped members laid

pub dropped_opens : (reached : Bool) (found : Option Record) (name : Path) (d : Recorded) (v w : World) → HasDropped reached found name v w → IsKept d v → CanOpenRecords w
dropped_opens reached found name d v w dropped kept = kept_opens d w (dropped_kept reached found name v w dropped d kept)

-- only `tmp.ci` changes
module _ (v w : World) (keeps : KeepsBut (is_within tmp_path) v w) where
  pub outside : (q : Path) → is_record_place q ≡ true → is_within tmp_path q ≡ false
  outside q is = false_from_ne_true (is_within tmp_path q) (λ within. true≢false (sym is ∙ (tmp_beside [] q within).unnoted))

  pub laying_kept : (d : Recorded) → IsKept d v → IsKept d w
  laying_kept d kept = kept_same d v w (λ q is. keeps q (outside q is)) (keeps home_path refl) (keeps updates_path refl) kept

  pub laying_opens : CanOpenRecords v → CanOpenRecords w
  laying_opens opens = opens_on v w (λ q is. keeps q (outside q is)) (keeps home_path refl) (keeps updates_path refl) opens

  pub laying_records : (rs : List Record) → HasRecords v rs → HasRecords w rs
  laying_records rs has = records_on v w rs (λ q is. keeps q (outside q is)) has

-- a commit leaves `tmp.ci` alone
tmp_within_home : (q : Path) → is_within tmp_path q ≡ true → is_within home_path q ≡ true
tmp_within_home q within = elim (within_is tmp_path q within) [
  | inl is ↦ ap (is_within home_path) is
  | inr more ↦ ap (is_within home_path) more.1
]

pub tmp_untouched : (c : Changes) (q : Path) → SparesAdministration c.leaving → AreElsewhere c.names → is_within tmp_path q ≡ true → IsUntouched c q
tmp_untouched c q spares elsewhere within =
    let home = tmp_within_home q within in
    let at = tmp_byte q within in
    record {
      stays = no_leaving_place c.leaving q spares home;
      uncleared = elsewhere q home;
      unlisted = λ name has. (λ e. absurd (omega (arith, at, ap byte e)), λ e. absurd (omega (arith, at, ap byte e)));
      no_member = λ name is. (λ e. absurd (omega (arith, at, ap byte e)), λ e. absurd (omega (arith, at, ap byte e)));
      unnoted = (tmp_beside [] q within).unnoted;
    }

pub committed_laid : (c : Changes) (ways : Ways) (lists : List PackageList) (after : List Record) (members : List Member) (v w : World) → SparesAdministration c.leaving → AreElsewhere c.names
    → HasCommitted c ways lists after v w → AreLaidOut members v → AreLaidOut members w
committed_laid c ways lists after members v w spares elsewhere has laid =
    laid_elsewhere members v w (λ q within. committed_keeps c ways lists v after w q has (tmp_untouched c q spares elsewhere within)) laid
