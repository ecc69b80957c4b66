use Rattle.std.proofs.Common.{refl, sym, ap, subst, rules, ◌∙◌}
use Rattle.std.proofs.lemmas.List.{take_all}
use Rattle.control_members.proofs.Starting.{since_here}
use Rattle.status_db.specs.Held.{HasRecords, is_record_place}
use Rattle.status_records.specs.Records.{put_record}
use Rattle.unpack_commit.specs.Takeover.{put_records}
use Rattle.unpack_commit.proofs.NotedOnes.{noting_start, put_more, since_noting, some_noted, standing_at}
use Rattle.unpack_commit.proofs.Parts.{on_err_as}
use Rattle.scattered_losses.proofs.GoingApart.{faults_behind, gone_by, gone_here, gone_on, later_of, passed_on}
use Rattle.unpack_commit.proofs.noting.note_records.Goals as goal

pub loop-entry-init : goal.loop-entry-init
loop-entry-init g c = record {
  silent = search rules;
  counts = search rules;
  records = refl;
  opened = c.requires.opened;
  kept = c.requires.kept;
  rest = λ h q out. refl;
  any_moment = since_here _ _ (λ h. noting_start c.args.records.now c.args.database.now _ (c.requires.kept h));
  apart = gone_here is_record_place (g.H.Host.state c.args.host.now);
}

pub note_copy-requires-clause-stands : goal.note_copy-requires-clause-stands
note_copy-requires-clause-stands g c = standing_at c.args.records.now c.loop-entry.entry-index c.entry-item.result c.requires.stands c.loop-entry-test.true c.entry-item.is

pub returns-in_err-note_copy-clause-err : goal.returns-in_err-note_copy-clause-err
returns-in_err-note_copy-clause-err g c =
    on_err_as c.from_residual.result _
    (some_noted c.args.records.now c.args.database.now.records c.loop-entry.database.records _ c.loop-entry.entry-index c.loop-entry.invariant.records c.in_err-note_copy.ensures.same)

pub returns-in_err-note_copy-clause-any_moment : goal.returns-in_err-note_copy-clause-any_moment
returns-in_err-note_copy-clause-any_moment g c =
    let before = c.loop-entry.invariant in
    since_noting c.args.records.now c.args.database.now.records c.loop-entry.entry-index c.entry-item.result c.loop-entry.database.records _ _ _ c.loop-entry-test.true c.entry-item.is before.records before.rest before.any_moment c.note_copy.ensures.any_moment

pub loop-entry-preserved : goal.loop-entry-preserved
loop-entry-preserved g c =
    let before = c.loop-entry.invariant in
    let records = c.args.records.now in
    let table = c.args.database.now.records in
    let i = c.loop-entry.entry-index in
    let r = c.entry-item.result in
    record {
      silent = search rules;
      counts = search rules;
      records = c.in_ok-note_copy.ensures.records ∙ ap (put_record r) before.records ∙ sym (put_more records table i r c.loop-entry-test.true c.entry-item.is);
      opened = c.in_ok-note_copy.ensures.opened;
      kept = λ h. (c.in_ok-note_copy.ensures.kept h).kept;
      rest = λ h q out. (c.in_ok-note_copy.ensures.kept h).rest q out ∙ before.rest (c.note_copy.ensures.silent.honest h) q out;
      any_moment = since_noting records table i r c.loop-entry.database.records _ _ _ c.loop-entry-test.true c.entry-item.is before.records before.rest before.any_moment c.note_copy.ensures.any_moment;
      apart = gone_on is_record_place _ _ _ before.apart (gone_by is_record_place _ (g.H.Host.state c.loop-entry.host) (g.H.Host.state c.note_copy.new.host) c.note_copy.ensures.any_moment c.in_ok-note_copy.ensures.apart);
    }

pub returns-clause-records : goal.returns-clause-records
returns-clause-records g c =
    c.loop-entry.invariant.records ∙ ap (λ rs. put_records rs c.args.database.now.records) (take_all c.loop-entry.entry-index c.args.records.now c.loop-entry-test.false)

pub returns-clause-noted : goal.returns-clause-noted
returns-clause-noted g c = λ h. record {
  has = subst (HasRecords _) (c.loop-entry.invariant.records ∙ ap (λ rs. put_records rs c.args.database.now.records) (take_all c.loop-entry.entry-index c.args.records.now c.loop-entry-test.false)) (c.loop-entry.invariant.kept h).holds;
  rest = c.loop-entry.invariant.rest h;
}

pub returns-in_err-note_copy-clause-apart : goal.returns-in_err-note_copy-clause-apart
returns-in_err-note_copy-clause-apart g c =
    let b = g.H.Host.state c.loop-entry.host in
    let d = g.H.Host.state c.note_copy.new.host in
    faults_behind is_record_place c.from_residual.result (g.H.Host.state c.args.host.now) b d c.loop-entry.invariant.apart (later_of _ b d c.note_copy.ensures.any_moment) (λ h. (c.note_copy.ensures.apart h).0)
    (passed_on _ _ c.from_residual.result c.from_residual.ensures.1)

pub returns-clause-apart : goal.returns-clause-apart
returns-clause-apart g c = c.loop-entry.invariant.apart.1
