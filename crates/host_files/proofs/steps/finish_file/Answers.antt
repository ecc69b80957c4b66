use Rattle.std.proofs.Common.{rules, ◌∷◌, ◌++◌, [], IfErr}
use Rattle.std.specs.declared.fs.Metadata.{Metadata}
use Rattle.host_files.specs.Faults.{IsOfStep}
use Rattle.host_files.specs.Shown.{access_calls, time_calls}
use Rattle.host_files.proofs.Answered.{before_begun, behind_begun}
use Rattle.host_files.specs.declared.trace.SystemCall.TheVariants.{Append}
use Rattle.host_files.proofs.steps.finish_file.Goals as goal

pub returns-in_err-found-clause-made : goal.returns-in_err-found-clause-made
returns-in_err-found-clause-made c =
    let step : IfErr c.from_residual.result IsOfStep = search rules in
    before_begun Metadata (time_calls c.args.modified) (access_calls c.args.owners c.args.access ++ Append c.args.bytes.now ∷ []) c.args.system.now.trace.calls c.fill_file.new.system.trace.calls
    c.in_err-found.field-0.0 c.from_residual.result c.from_residual.ensures.0 step c.in_err-found.ensures.err c.in_err-found.ensures.made

pub returns-in_err-set_time-clause-made : goal.returns-in_err-set_time-clause-made
returns-in_err-set_time-clause-made c =
    let step : IfErr c.from_residual-in_err-set_time.result IsOfStep = search rules in
    behind_begun (Unit {0}) (access_calls c.args.owners c.args.access ++ Append c.args.bytes.now ∷ []) (time_calls c.args.modified) c.args.system.now.trace.calls c.fill_file.new.system.trace.calls c.set_time.new.system.trace.calls
    c.in_err-set_time.field-0.0 c.from_residual-in_err-set_time.result c.from_residual-in_err-set_time.ensures.0 step c.in_err-set_time.ensures.err c.in_ok-found.ensures.made c.in_err-set_time.ensures.made
