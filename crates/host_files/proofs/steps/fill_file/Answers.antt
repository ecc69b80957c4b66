use Rattle.std.proofs.Common.{◌∷◌, [], ap}
use Rattle.host_files.specs.SystemCalls.{changes_in}
use Rattle.host_files.specs.Shown.{access_calls}
use Rattle.host_files.proofs.Answered.{adds_after}
use Rattle.host_files.specs.declared.trace.SystemCall.TheVariants.{Append}
use Rattle.host_files.proofs.steps.fill_file.Goals as goal

pub returns-clause-made : goal.returns-clause-made
returns-clause-made c = adds_after (Append c.args.bytes.now ∷ []) (access_calls c.args.owners c.args.access) c.args.system.now.trace.calls c.append.new.self.trace.calls c.set_access.new.system.trace.calls c.set_access.result
    (ap changes_in c.in_ok-append.ensures.made) c.set_access.ensures.err c.set_access.ensures.made
