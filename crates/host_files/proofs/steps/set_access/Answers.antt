use Rattle.std.proofs.Common.{rules, ◌∷◌, [], true, ap, refl, IfErr}
use Rattle.host_files.specs.Faults.{IsOfStep}
use Rattle.host_files.specs.SystemCalls.{changes_in}
use Rattle.host_files.specs.Shown.{access_calls}
use Rattle.host_files.proofs.Answered.{adds_some}
use Rattle.host_files.specs.declared.trace.SystemCall.TheVariants.{SetModeMade, SetOwnerMade}
use Rattle.host_files.proofs.steps.set_access.Goals as goal

pub returns-in_err-set_owner-clause-made : goal.returns-in_err-set_owner-clause-made
returns-in_err-set_owner-clause-made c =
    let step : IfErr c.from_residual.result IsOfStep = search rules in
    rw (c.if-owners.true)
    (adds_some (SetModeMade c.args.access.mode ∷ []) (SetOwnerMade c.args.access.user c.args.access.group ∷ []) (access_calls true c.args.access) c.args.system.now.trace.calls c.set_owner.new.self.trace.calls c.from_residual.result c.from_residual.ensures.0 step refl
    (ap changes_in c.in_err-set_owner.ensures.made))
