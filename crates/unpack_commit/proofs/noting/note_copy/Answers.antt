use Rattle.std.proofs.Common.{ap, subst, ◌∙◌}
use Rattle.host_core.specs.Host.{AtEachMoment}
use Rattle.package_files.proofs.WriteMoments.{on_ok}
use Rattle.status_db.proofs.NotedWorlds.{noting_not}
use Rattle.status_db.specs.Noting.{IsNoting}
use Rattle.status_records.specs.Records.{put_record}
use Rattle.status_records.specs.Words.{is_not_installed}
use Rattle.status_records.specs.declared.record.Record.{Record}
use Rattle.scattered_losses.proofs.GoingApart.{fails_so, gone_here, passed_on}
use Rattle.status_db.specs.Held.{is_record_place}
use Rattle.unpack_commit.proofs.noting.note_copy.Goals as goal

pub returns-in_err-copy-clause-any_moment : goal.returns-in_err-copy-clause-any_moment
returns-in_err-copy-clause-any_moment g c = noting_not c.args.database.now.records (put_record c.args.entry.now c.args.database.now.records) c.args.database.now.notes _ c.requires.kept

pub note_record-requires-clause-stands : goal.note_record-requires-clause-stands
note_record-requires-clause-stands g c = ap (λ (r : Record). is_not_installed r.state) c.in_ok-copy.ensures ∙ c.requires.stands

pub returns-clause-records : goal.returns-clause-records
returns-clause-records g c = on_ok c.note_record.result _ _ (λ is. is ∙ ap (λ r. put_record r c.args.database.now.records) c.in_ok-copy.ensures) c.note_record.ensures.records

pub returns-clause-any_moment : goal.returns-clause-any_moment
returns-clause-any_moment g c =
    let before = c.args.database.now.records in
    subst (λ (r : Record). AtEachMoment (IsNoting before (put_record r before)) (g.H.Host.state c.args.host.now) (g.H.Host.state c.note_record.new.host)) c.in_ok-copy.ensures c.note_record.ensures.any_moment

pub returns-in_err-copy-clause-apart : goal.returns-in_err-copy-clause-apart
returns-in_err-copy-clause-apart g c =
    let s = g.H.Host.state c.args.host.now in
    fails_so is_record_place c.from_residual.result s s (gone_here is_record_place s) (passed_on _ _ c.from_residual.result c.from_residual.ensures.1)

pub returns-clause-apart : goal.returns-clause-apart
returns-clause-apart g c = c.note_record.ensures.apart
