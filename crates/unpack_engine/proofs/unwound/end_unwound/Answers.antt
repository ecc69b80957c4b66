use Rattle.administration.specs.Directories.{IsRemoved}
use Rattle.administration.specs.Places.{tmp_path}
use Rattle.control_members.specs.LaidOut.{IsLaying}
use Rattle.package_files.proofs.WriteMoments.{on_ok}
use Rattle.status_records.specs.Records.{record_in}
use Rattle.listed_files.proofs.Moments.{at_each, then_at_each}
use Rattle.unpack_engine.specs.Units.{HasDropped, HasLeftBy, MayDrop, MayLeaveBy}
use Rattle.unpack_engine.proofs.Dropping.{dropped_laid, dropped_opens}
use Rattle.scattered_losses.proofs.GoingApart.{ends_so, fails_so, gone_on, passed_on}
use Rattle.status_db.specs.Held.{is_record_place}
use Rattle.unpack_engine.proofs.RecordsApart.{drop_gone, laying_gone}
use Rattle.unpack_engine.proofs.unwound.end_unwound.Goals as goal

pub returns-in_err-drop_unrecorded-clause-any_moment : goal.returns-in_err-drop_unrecorded-clause-any_moment
returns-in_err-drop_unrecorded-clause-any_moment g c =
    let found = record_in c.args.database.now.records c.args.name.now in
    at_each (MayDrop c.args.reached found c.args.name.now) (MayLeaveBy (HasDropped c.args.reached found c.args.name.now) (MayDrop c.args.reached found c.args.name.now)) _ _ (λ now is. MayLeaveBy.following is) c.drop_unrecorded.ensures.any_moment

pub clear_away-requires : goal.clear_away-requires
clear_away-requires g c = λ h.
    dropped_laid c.args.reached (record_in c.args.database.now.records c.args.name.now) c.args.name.now c.args.members.now _ _ (c.in_ok-drop_unrecorded.ensures.dropped h) (c.requires.laid (c.drop_unrecorded.ensures.silent.honest h))

pub returns-clause-left : goal.returns-clause-left
returns-clause-left g c = λ h.
    let found = record_in c.args.database.now.records c.args.name.now in
    let mid = g.H.Host.state c.drop_unrecorded.new.host in
    let end = g.H.Host.state c.clear_away.new.host in
    on_ok c.clear_away.result (IsRemoved tmp_path mid.world end.world) (HasLeftBy (HasDropped c.args.reached found c.args.name.now) (g.H.Host.state c.args.host.now).world end.world)
    (λ removed. record { followed = mid.world; has_followed = c.in_ok-drop_unrecorded.ensures.dropped (c.clear_away.ensures.silent.honest h); removed = removed }) (c.clear_away.ensures.removed h)

pub returns-clause-any_moment : goal.returns-clause-any_moment
returns-clause-any_moment g c =
    let found = record_in c.args.database.now.records c.args.name.now in
    let mid = g.H.Host.state c.drop_unrecorded.new.host in
    then_at_each (MayDrop c.args.reached found c.args.name.now) IsLaying (MayLeaveBy (HasDropped c.args.reached found c.args.name.now) (MayDrop c.args.reached found c.args.name.now)) _ _ _ (λ now is. MayLeaveBy.following is)
    (λ h now is. (let h1 = c.clear_away.ensures.silent.honest h in
    let dropped = c.in_ok-drop_unrecorded.ensures.dropped h1 in
    MayLeaveBy.clearing_away mid.world dropped (dropped_opens c.args.reached found c.args.name.now c.args.database.now _ _ dropped (c.requires.kept (c.drop_unrecorded.ensures.silent.honest h1))) is))
    c.drop_unrecorded.ensures.any_moment c.clear_away.ensures.any_moment

pub returns-in_err-drop_unrecorded-clause-apart : goal.returns-in_err-drop_unrecorded-clause-apart
returns-in_err-drop_unrecorded-clause-apart g c =
    let old = g.H.Host.state c.args.host.now in
    let mid = g.H.Host.state c.drop_unrecorded.new.host in
    fails_so is_record_place c.from_residual.result old mid (drop_gone c.args.reached (record_in c.args.database.now.records c.args.name.now) c.args.name.now old mid c.drop_unrecorded.ensures.any_moment)
    (passed_on _ _ c.from_residual.result c.from_residual.ensures.1)

pub returns-clause-apart : goal.returns-clause-apart
returns-clause-apart g c =
    let old = g.H.Host.state c.args.host.now in
    let mid = g.H.Host.state c.drop_unrecorded.new.host in
    let new = g.H.Host.state c.clear_away.new.host in
    let dropped = drop_gone c.args.reached (record_in c.args.database.now.records c.args.name.now) c.args.name.now old mid c.drop_unrecorded.ensures.any_moment in
    ends_so is_record_place c.clear_away.result old new (gone_on is_record_place old mid new dropped (laying_gone mid new c.clear_away.ensures.any_moment))
