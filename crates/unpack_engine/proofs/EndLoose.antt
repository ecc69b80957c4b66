-- No entry of `info` becomes a directory by what follows the rows.
use Rattle.std.proofs.Common.{◌≡◌, ◌≢◌, ◌⊎◌, inl, inr, ℕ, Bool, true, false, nat_le, List, ◌∷◌, ◌++◌, Option, Some, None, sym, subst}
use Rattle.host_core.specs.Paths.{Path}
use Rattle.host_core.specs.World.{World, IsDirectory}
use Rattle.administration.specs.Places.{info_path, list_path}
use Rattle.undo_rows.specs.declared.fall.Fall.{Fall}
use Rattle.undo_rows.specs.declared.failed.Failed.{Failed}
use Rattle.undo_rows.specs.Transcripts.{Ended, Committed, Unwound}
use Rattle.diversions.specs.Ways.{Ways}
use Rattle.file_lists.specs.Info.{AreLoose}
use Rattle.file_lists.specs.declared.paths.PackageList.{PackageList}
use Rattle.status_records.specs.Records.{record_in}
use Rattle.status_records.specs.declared.record.Record.{Record}
use Rattle.unpack_commit.specs.Commit.{Changes}
use Rattle.unpack_commit.specs.Takeover.{put_records}
use Rattle.unpack_commit.proofs.Loose.{info_loose, info_loose_amid}
use Rattle.unpack_engine.specs.Units.{HasDropped, HasFollowed, HasLeft, MayDrop, MayLeave, MayLeaveBy}
use Rattle.unpack_engine.proofs.Cleared.{gone_at, laid_loose}

pub dropped_loose : (reached : Bool) (found : Option Record) (name : Path) (v w : World) → HasDropped reached found name v w → AreLoose v → AreLoose w
dropped_loose true None name v w dropped loose = λ entry plain is.
    let q = info_path ++ 47 ∷ entry in
    loose entry plain (subst IsDirectory (dropped.rest q (λ e. gone_at w (list_path name) q dropped.target is e)) is)
dropped_loose true (Some r) name v w same loose = subst AreLoose (sym same) loose
dropped_loose false found name v w same loose = subst AreLoose (sym same) loose

-- while it is dropped it stands as before, or is gone
stands_at : (v w : World) (p q : Path) → (w p ≡ v p) ⊎ (w p ≡ None) → (IsDirectory (v q) → ⊥) → IsDirectory (w q) → q ≢ p
stands_at v w p q (inl same) none is e = none (subst (λ x. IsDirectory (v x)) (sym e) (subst IsDirectory same (subst (λ x. IsDirectory (w x)) e is)))
stands_at v w p q (inr gone) none is e = gone_at w p q gone is e

pub may_drop_loose : (reached : Bool) (found : Option Record) (name : Path) (v w : World) → MayDrop reached found name v w → AreLoose v → AreLoose w
may_drop_loose true None name v w dropping loose = λ entry plain is.
    let q = info_path ++ 47 ∷ entry in
    loose entry plain (subst IsDirectory (dropping.rest q (stands_at v w (list_path name) q dropping.target (loose entry plain) is)) is)
may_drop_loose true (Some r) name v w same loose = subst AreLoose (sym same) loose
may_drop_loose false found name v w same loose = subst AreLoose (sym same) loose

module _ (c : Changes) (records : List Record) (ways : Ways) (lists : List PackageList) (table : List Record) (others : ℕ) (old : World) where
  pub followed_loose : (ended : Ended) (new : World) → HasFollowed c records ways lists table others ended old new → AreLoose old → AreLoose new
  followed_loose Committed new has loose = info_loose c ways lists old (put_records records table) new has loose
  followed_loose (Unwound fall failed) new has loose = dropped_loose (nat_le others fall.row) (record_in table c.name) c.name old new has loose

  pub left_loose : (ended : Ended) (new : World) → HasLeft c records ways lists table others ended old new → AreLoose old → AreLoose new
  left_loose ended new left loose = laid_loose left.followed new left.removed.rest (followed_loose ended left.followed left.has_followed loose)

  pub committed_leaving_loose : (now : World) → MayLeave c records ways lists table others Committed old now → AreLoose old → AreLoose now
  committed_leaving_loose now (MayLeaveBy.following may) loose = info_loose_amid c ways lists old records table now may loose
  committed_leaving_loose now (MayLeaveBy.clearing_away followed has opens laying) loose = laid_loose followed now laying.rest (followed_loose Committed followed has loose)

  pub unwound_leaving_loose : (now : World) (fall : Fall) (failed : List Failed) → MayLeave c records ways lists table others (Unwound fall failed) old now → AreLoose old → AreLoose now
  unwound_leaving_loose now fall failed (MayLeaveBy.following may) loose = may_drop_loose (nat_le others fall.row) (record_in table c.name) c.name old now may loose
  unwound_leaving_loose now fall failed (MayLeaveBy.clearing_away followed has opens laying) loose =
      laid_loose followed now laying.rest (followed_loose (Unwound fall failed) followed has loose)
