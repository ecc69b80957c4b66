use Rattle.std.proofs.Common.{◌∙◌}
use Rattle.control_fields.proofs.Keyed.{walk_more}
use Rattle.status_records.proofs.RecordedFields.{recorded_all, recorded_more, recorded_new}
use Rattle.status_records.proofs.recorded.all_recorded.Goals as goal

pub push-requires : goal.push-requires
push-requires c =
    recorded_new c.loop-field.recorded c.args.fields.now c.loop-field.field-iterator c.next.new.self c.loop-field.yielded c.in-Some.field c.in_ok-recorded_as.field-0 c.requires
    c.loop-field.invariant.0 c.loop-field.invariant.1 c.in-Some.ensures.steps c.in_ok-recorded_as.ensures

pub loop-field-preserved : goal.loop-field-preserved
loop-field-preserved c = (
  recorded_more c.loop-field.recorded c.push.new.self c.loop-field.yielded c.in-Some.field c.in_ok-recorded_as.field-0 c.loop-field.invariant.0 c.in_ok-recorded_as.ensures c.in_ok-push.ensures.ok,
  walk_more c.args.fields.now c.loop-field.field-iterator c.next.new.self c.loop-field.yielded c.in-Some.field c.loop-field.invariant.1 c.in-Some.ensures.steps,
)

pub returns : goal.returns
returns c = recorded_all c.loop-field.recorded c.args.fields.now c.loop-field.field-iterator c.loop-field.yielded c.loop-field.invariant.0 c.loop-field.invariant.1 c.in-None.ensures.steps.0
