use Rattle.std.proofs.Common.{rules, ◌∷◌, ◌++◌, [], ap, sym, IfErr, append_assoc}
use Rattle.host_files.specs.Faults.{IsOfStep}
use Rattle.host_files.specs.SystemCalls.{changes_in}
use Rattle.host_files.specs.Shown.{amending_calls, opened_calls}
use Rattle.host_files.proofs.Answered.{adds_after, adds_some}
use Rattle.host_files.specs.declared.trace.SystemCall.TheVariants.{OpenMade, SeenMade}
use Rattle.host_files.proofs.steps.open_directory.Goals as goal

pub returns-in_err-made-clause-made : goal.returns-in_err-made-clause-made
returns-in_err-made-clause-made c =
    let step : IfErr c.from_residual.result IsOfStep = search rules in
    let amending = amending_calls c.args.owners c.args.access c.args.access in (
      c.args.access,
      adds_some (amending ++ SeenMade c.args.access ∷ []) (OpenMade c.args.place.now ∷ []) (opened_calls c.args.owners c.args.place.now c.args.access c.args.access) c.args.system.now.trace.calls c.open_made.new.self.trace.calls
          c.from_residual.result c.from_residual.ensures.0 step (sym (append_assoc amending (SeenMade c.args.access ∷ []) (OpenMade c.args.place.now ∷ []))) (ap changes_in c.in_err-made.ensures.not),
    )

pub returns-clause-made : goal.returns-clause-made
returns-clause-made c = (
  c.in_ok-made.seen,
  adds_after (SeenMade c.in_ok-made.seen ∷ OpenMade c.args.place.now ∷ []) (amending_calls c.args.owners c.args.access c.in_ok-made.seen) c.args.system.now.trace.calls c.open_made.new.self.trace.calls c.amend_access.new.system.trace.calls
      c.amend_access.result (ap changes_in c.in_ok-made.ensures.made) c.amend_access.ensures.err c.amend_access.ensures.made,
)
