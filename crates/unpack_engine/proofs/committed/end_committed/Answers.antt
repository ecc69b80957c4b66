use Rattle.administration.specs.Directories.{IsRemoved}
use Rattle.administration.specs.Places.{tmp_path}
use Rattle.control_members.specs.LaidOut.{IsLaying}
use Rattle.package_files.proofs.WriteMoments.{on_ok}
use Rattle.status_db.specs.Held.{IsKept}
use Rattle.unpack_commit.specs.Commit.{HasCommitted, HasCommittedUnless, MayCommit, changes_of}
use Rattle.unpack_commit.specs.Takeover.{put_records}
use Rattle.host_core.specs.Host.{WasDenied}
use Rattle.host_core.proofs.Moments.{since_weaker}
use Rattle.unpack_commit.proofs.Parts.{committed_any, committed_wider}
use Rattle.host_core.proofs.Denials.{denied_first_since}
use Rattle.listed_files.proofs.Moments.{then_at_each}
use Rattle.unpack_engine.specs.Units.{HasLeftBy, MayLeaveBy}
use Rattle.unpack_engine.proofs.Dropping.{committed_laid, laying_kept}
use Rattle.unpack_engine.proofs.Ready.{kept_opens}
use Rattle.scattered_losses.proofs.GoingApart.{ends_so, faults_so, gone_by, passed_on, works_behind}
use Rattle.status_db.specs.Held.{is_record_place}
use Rattle.unpack_engine.proofs.RecordsApart.{laying_gone}
use Rattle.unpack_engine.proofs.committed.end_committed.Goals as goal

pub returns-in_err-commit-clause-any_moment : goal.returns-in_err-commit-clause-any_moment
returns-in_err-commit-clause-any_moment g c =
    let change = changes_of c.args.change.now c.args.new_list in
    let ways = c.args.diversions.now.ways in
    let lists = c.args.lists.now.lists in
    let records = c.args.records.now in
    let before = c.args.database.now.records in
    since_weaker _ (λ so_far. MayLeaveBy (HasCommitted change ways lists (put_records records before)) (MayCommit change ways lists records before) (g.H.Host.state c.args.host.now).world) _ _ (λ so_far now is. MayLeaveBy.following is.0) c.commit.ensures.any_moment

pub clear_away-requires : goal.clear_away-requires
clear_away-requires g c = λ h.
    committed_laid (changes_of c.args.change.now c.args.new_list) c.args.diversions.now.ways c.args.lists.now.lists _ c.args.change.now.members _ _ c.requires.spared c.requires.elsewhere
    (committed_any (WasDenied (g.H.Host.state c.args.host.now) (g.H.Host.state c.commit.new.host)) _ _ _ _ _ _ (c.in_ok-commit.ensures.committed h)) (c.requires.laid (c.commit.ensures.silent.honest h))

pub returns-clause-left : goal.returns-clause-left
returns-clause-left g c = λ h.
    let change = changes_of c.args.change.now c.args.new_list in
    let after = put_records c.args.records.now c.args.database.now.records in
    let mid = g.H.Host.state c.commit.new.host in
    let end = g.H.Host.state c.clear_away.new.host in
    on_ok c.clear_away.result (IsRemoved tmp_path mid.world end.world) (HasLeftBy (HasCommitted change c.args.diversions.now.ways c.args.lists.now.lists after) (g.H.Host.state c.args.host.now).world end.world)
    (λ removed. record { followed = mid.world; has_followed = committed_any (WasDenied (g.H.Host.state c.args.host.now) mid) _ _ _ _ _ _ (c.in_ok-commit.ensures.committed (c.clear_away.ensures.silent.honest h)); removed = removed }) (c.clear_away.ensures.removed h)

pub returns-clause-stays : goal.returns-clause-stays
returns-clause-stays g c = λ h.
    let change = changes_of c.args.change.now c.args.new_list in
    let ways = c.args.diversions.now.ways in
    let lists = c.args.lists.now.lists in
    let after = put_records c.args.records.now c.args.database.now.records in
    let old = g.H.Host.state c.args.host.now in
    let mid = g.H.Host.state c.commit.new.host in
    let end = g.H.Host.state c.clear_away.new.host in
    let first = committed_wider (WasDenied old mid) (WasDenied old end) (λ p is. denied_first_since _ old mid end p is c.clear_away.ensures.any_moment) change ways lists after old.world mid.world
    (c.in_ok-commit.ensures.committed (c.clear_away.ensures.silent.honest h)) in
    on_ok c.clear_away.result (IsRemoved tmp_path mid.world end.world) (HasLeftBy (HasCommittedUnless change ways lists (WasDenied old end) after) old.world end.world)
    (λ removed. record { followed = mid.world; has_followed = first; removed = removed }) (c.clear_away.ensures.removed h)

pub returns-clause-kept : goal.returns-clause-kept
returns-clause-kept g c = λ h.
    let mid = g.H.Host.state c.commit.new.host in
    let end = g.H.Host.state c.clear_away.new.host in
    on_ok c.clear_away.result (IsRemoved tmp_path mid.world end.world) (IsKept c.commit.new.database end.world)
    (λ removed. laying_kept mid.world end.world removed.rest c.commit.new.database (c.in_ok-commit.ensures.kept (c.clear_away.ensures.silent.honest h))) (c.clear_away.ensures.removed h)

pub returns-clause-any_moment : goal.returns-clause-any_moment
returns-clause-any_moment g c =
    let change = changes_of c.args.change.now c.args.new_list in
    let ways = c.args.diversions.now.ways in
    let lists = c.args.lists.now.lists in
    let records = c.args.records.now in
    let before = c.args.database.now.records in
    let mid = g.H.Host.state c.commit.new.host in
    then_at_each (MayCommit change ways lists records before) IsLaying (MayLeaveBy (HasCommitted change ways lists (put_records records before)) (MayCommit change ways lists records before)) _ _ _ (λ now is. MayLeaveBy.following is)
    (λ h now is. (let h1 = c.clear_away.ensures.silent.honest h in
    MayLeaveBy.clearing_away mid.world (committed_any (WasDenied (g.H.Host.state c.args.host.now) mid) _ _ _ _ _ _ (c.in_ok-commit.ensures.committed h1)) (kept_opens c.commit.new.database mid.world (c.in_ok-commit.ensures.kept h1)) is))
    (since_weaker _ (λ so_far. MayCommit change ways lists records before (g.H.Host.state c.args.host.now).world) _ _ (λ so_far now is. is.0) c.commit.ensures.any_moment) c.clear_away.ensures.any_moment

pub returns-in_err-commit-clause-apart : goal.returns-in_err-commit-clause-apart
returns-in_err-commit-clause-apart g c = faults_so is_record_place c.from_residual.result (g.H.Host.state c.args.host.now) (g.H.Host.state c.commit.new.host) (λ h. (c.commit.ensures.apart h).0) (passed_on _ _ c.from_residual.result c.from_residual.ensures.1)

pub returns-clause-apart : goal.returns-clause-apart
returns-clause-apart g c =
    let old = g.H.Host.state c.args.host.now in
    let mid = g.H.Host.state c.commit.new.host in
    let new = g.H.Host.state c.clear_away.new.host in
    let cleared = laying_gone mid new c.clear_away.ensures.any_moment in
    works_behind is_record_place c.clear_away.result old mid new (gone_by is_record_place _ old mid c.commit.ensures.any_moment c.in_ok-commit.ensures.apart) cleared.0 (ends_so is_record_place c.clear_away.result mid new cleared)
