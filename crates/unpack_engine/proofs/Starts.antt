-- Before a commit begins.
use Rattle.std.proofs.Common.{inl, ℕ, List, refl}
use Rattle.host_core.specs.World.{World}
use Rattle.host_core.specs.Host.{State, AtEachMoment, Needs}
use Rattle.host_core.proofs.Nodes.{directory_stands, none_stands}
use Rattle.control_members.proofs.Starting.{since_here}
use Rattle.diversions.specs.Ways.{Ways}
use Rattle.file_lists.specs.declared.paths.PackageList.{PackageList}
use Rattle.status_db.specs.Held.{IsKept}
use Rattle.status_db.specs.Recorded.{Recorded}
use Rattle.status_records.specs.declared.record.Record.{Record}
use Rattle.undo_rows.specs.Transcripts.{Committed}
use Rattle.unpack_commit.specs.Commit.{Changes, MayCommit}
use Rattle.unpack_engine.specs.Units.{MayLeave, MayLeaveBy}
use Rattle.unpack_engine.proofs.Ready.{kept_opens}

module _ (c : Changes) (ways : Ways) (lists : List PackageList) (records : List Record) (d : Recorded) (others : ℕ) where
  pub commit_start : (w : World) → IsKept d w → MayCommit c ways lists records d.records w w
  commit_start w kept = MayCommit.renewing (inl (record {
    each = λ q. inl refl;
    below = λ q is none. absurd (none_stands (w q) none (directory_stands (w q) is));
  })) kept.holds (kept_opens d w kept)

  pub leave_start : (a : State) → Needs a (IsKept d) → AtEachMoment (MayLeave c records ways lists d.records others Committed) a a
  leave_start a kept = since_here (λ so_far. MayLeave c records ways lists d.records others Committed a.world) a (λ h. MayLeaveBy.following (commit_start a.world (kept h)))
