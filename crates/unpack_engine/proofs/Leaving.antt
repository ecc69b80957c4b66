-- What holds at each moment after the rows of a unit.
use Rattle.std.proofs.Common.{◌≡◌, ℕ, Bool, nat_le, List, [], ◌++◌, refl, sym, ap, arith}
use Rattle.std.proofs.lemmas.List.{append-nil}
use Rattle.host_core.specs.World.{World}
use Rattle.administration.specs.Places.{home_path, list_path, updates_path}
use Rattle.undo_rows.specs.declared.fall.Fall.{Fall}
use Rattle.undo_rows.specs.declared.failed.Failed.{Failed}
use Rattle.undo_rows.specs.Transcripts.{Ended, Committed, Unwound}
use Rattle.control_members.specs.LaidOut.{AreLaidOut, IsIncoming}
use Rattle.control_members.specs.declared.member.Member.{Member}
use Rattle.control_members.proofs.LaidOut.{laid_elsewhere, laid_incoming}
use Rattle.diversions.specs.Ways.{Ways}
use Rattle.file_lists.specs.declared.paths.PackageList.{PackageList}
use Rattle.status_db.specs.Held.{CanOpenRecords, HasRecords, IsKept}
use Rattle.status_db.specs.Recorded.{Recorded}
use Rattle.status_records.specs.Records.{record_in}
use Rattle.status_records.specs.declared.record.Record.{Record}
use Rattle.status_db.proofs.NotedWorlds.{place_differs}
use Rattle.unpack_commit.specs.Commit.{Changes, MayCommit}
use Rattle.unpack_commit.specs.Takeover.{put_records}
use Rattle.unpack_commit.proofs.Left.{committing_keeps}
use Rattle.listed_files.specs.Closing.{SparesAdministration}
use Rattle.listed_files.specs.Concluding.{AreElsewhere}
use Rattle.unpack_engine.specs.Units.{MayDrop, MayLeave, MayLeaveBy, noted_by_commit, noted_so_far}
use Rattle.unpack_engine.proofs.Apart.{tmp_beside}
use Rattle.unpack_engine.proofs.Begun.{byte, may_drop_same}
use Rattle.unpack_engine.proofs.Dropping.{dropped_kept, laying_kept, laying_opens, laying_records, tmp_untouched}
use Rattle.unpack_engine.proofs.Ready.{kept_opens, kept_same}

-- the next opening finds these records
pub record IsOpen (table : List Record) (now : World) : Type 0 where
  pub has : HasRecords now table
  pub opens : CanOpenRecords now

module _ (c : Changes) (records : List Record) (ways : Ways) (lists : List PackageList) (table : List Record) (others : ℕ) (old now : World) where
  commit_open : (may : MayCommit c ways lists records table old now) → IsOpen (put_records (noted_by_commit c records ways lists table others old now may) table) now
  commit_open (MayCommit.renewing may has opens) = record { has = has; opens = opens }
  commit_open (MayCommit.replacing renewed stale a b has opens) = record { has = has; opens = opens }
  commit_open (MayCommit.releasing renewed stored stale a b e f has opens) = record { has = has; opens = opens }
  commit_open (MayCommit.noting renewed stored released stale a b e f noting) = record { has = noting.has; opens = noting.opens }

  pub committed_open : (may : MayLeave c records ways lists table others Committed old now) → IsOpen (put_records (noted_so_far c records ways lists table others Committed old now may) table) now
  committed_open (MayLeaveBy.following may) = commit_open may
  committed_open (MayLeaveBy.clearing_away followed has opens laying) = record {
    has = laying_records followed now laying.rest (put_records records table) has.noted.has;
    opens = laying_opens followed now laying.rest opens;
  }

  -- what is noted so far is the first of the commit's records
  commit_first : (may : MayCommit c ways lists records table old now) → (back : List Record) × (records ≡ noted_by_commit c records ways lists table others old now may ++ back)
  commit_first (MayCommit.renewing may has opens) = (records, refl)
  commit_first (MayCommit.replacing renewed stale a b has opens) = (records, refl)
  commit_first (MayCommit.releasing renewed stored stale a b e f has opens) = (records, refl)
  commit_first (MayCommit.noting renewed stored released stale a b e f noting) = (noting.back, noting.are)

  pub noted_first : (ended : Ended) (may : MayLeave c records ways lists table others ended old now) → (back : List Record) × (records ≡ noted_so_far c records ways lists table others ended old now may ++ back)
  noted_first Committed (MayLeaveBy.following may) = commit_first may
  noted_first Committed (MayLeaveBy.clearing_away followed has opens laying) = ([], sym (append-nil records))
  noted_first (Unwound fall failed) may = (records, refl)

  pub committed_incoming : (members : List Member) → SparesAdministration c.leaving → AreElsewhere c.names → AreLaidOut members old → MayLeave c records ways lists table others Committed old now → IsIncoming now
  committed_incoming members spares elsewhere laid (MayLeaveBy.following may) =
      laid_incoming members now (laid_elsewhere members old now (λ q within. committing_keeps c ways lists old records table now q may (tmp_untouched c q spares elsewhere within)) laid)
  committed_incoming members spares elsewhere laid (MayLeaveBy.clearing_away followed has opens laying) = laying.incoming

module _ (c : Changes) (records : List Record) (ways : Ways) (lists : List PackageList) (d : Recorded) (others : ℕ) (old now : World) (ended : Ended) where
  module _ (reached : Bool) where
    dropping_kept : MayDrop reached (record_in d.records c.name) c.name old now → IsKept d old → IsKept d now
    dropping_kept may kept = kept_same d old now (λ q is. may_drop_same reached (record_in d.records c.name) c.name old now q may (λ e. place_differs q (list_path c.name) is refl (sym e)))
        (may_drop_same reached (record_in d.records c.name) c.name old now home_path may (λ e. absurd (omega (arith, ap byte e)))) (may_drop_same reached (record_in d.records c.name) c.name old now updates_path may (λ e. absurd (omega (arith, ap byte e)))) kept

    pub dropping_laid : (members : List Member) → MayDrop reached (record_in d.records c.name) c.name old now → AreLaidOut members old → AreLaidOut members now
    dropping_laid members may laid = laid_elsewhere members old now (λ q within. may_drop_same reached (record_in d.records c.name) c.name old now q may (tmp_beside c.name q within).unlisted) laid

  as_open : IsKept d now → IsOpen d.records now
  as_open kept = record { has = kept.holds; opens = kept_opens d now kept }

  pub unwound_open : (fall : Fall) (failed : List Failed) → IsKept d old → MayLeave c records ways lists d.records others (Unwound fall failed) old now → IsOpen d.records now
  unwound_open fall failed kept (MayLeaveBy.following may) = as_open (dropping_kept (nat_le others fall.row) may kept)
  unwound_open fall failed kept (MayLeaveBy.clearing_away followed has opens laying) =
      as_open (laying_kept followed now laying.rest d (dropped_kept (nat_le others fall.row) (record_in d.records c.name) c.name old followed has d kept))

  pub unwound_incoming : (fall : Fall) (failed : List Failed) (members : List Member) → AreLaidOut members old → MayLeave c records ways lists d.records others (Unwound fall failed) old now → IsIncoming now
  unwound_incoming fall failed members laid (MayLeaveBy.following may) = laid_incoming members now (dropping_laid (nat_le others fall.row) members may laid)
  unwound_incoming fall failed members laid (MayLeaveBy.clearing_away followed has opens laying) = laying.incoming
