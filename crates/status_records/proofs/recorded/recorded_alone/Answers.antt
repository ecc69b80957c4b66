use Rattle.std.proofs.Common.{◌∙◌, sym}
use Rattle.std.proofs.lemmas.Result.{IfOk-from_err}
use Rattle.control_fields.proofs.Keyed.{walk_more}
use Rattle.status_records.specs.Recorded.{is_recorded}
use Rattle.status_records.proofs.Kept.{kept_new_by, kept_more_by, kept_same_by}
use Rattle.status_records.proofs.recorded.recorded_alone.Goals as goal

pub returns-in_err-copy : goal.returns-in_err-copy
returns-in_err-copy c = IfOk-from_err c.from_residual.result _ c.from_residual.ensures.0

pub push-requires : goal.push-requires
push-requires c =
    kept_new_by is_recorded c.loop-field.kept c.args.control.now c.loop-field.field-iterator c.next.new.self c.loop-field.yielded c.in-Some.field c.in_ok-copy.field-0 c.requires
    c.loop-field.invariant.0 c.loop-field.invariant.1 c.in-Some.ensures.steps c.in_ok-copy.ensures

pub loop-field-preserved-in_ok-push : goal.loop-field-preserved-in_ok-push
loop-field-preserved-in_ok-push c = (
  kept_more_by is_recorded c.loop-field.kept c.push.new.self c.loop-field.yielded c.in-Some.field c.in_ok-copy.field-0 (sym c.is_recorded.ensures ∙ c.if-is_recorded.true) c.loop-field.invariant.0 c.in_ok-push.ensures.ok c.in_ok-copy.ensures,
  walk_more c.args.control.now c.loop-field.field-iterator c.next.new.self c.loop-field.yielded c.in-Some.field c.loop-field.invariant.1 c.in-Some.ensures.steps,
)

pub returns-in_err-push : goal.returns-in_err-push
returns-in_err-push c = IfOk-from_err c.from_residual-in_err-push.result _ c.from_residual-in_err-push.ensures.0

pub loop-field-preserved : goal.loop-field-preserved
loop-field-preserved c = (
  kept_same_by is_recorded c.loop-field.kept c.loop-field.yielded c.in-Some.field (sym c.is_recorded.ensures ∙ c.if-is_recorded.false) c.loop-field.invariant.0,
  walk_more c.args.control.now c.loop-field.field-iterator c.next.new.self c.loop-field.yielded c.in-Some.field c.loop-field.invariant.1 c.in-Some.ensures.steps,
)
