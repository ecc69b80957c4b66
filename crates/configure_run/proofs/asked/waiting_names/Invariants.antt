use Rattle.std.proofs.Common.{◌≡◌, take}
use Rattle.configure_run.specs.Asked.{waiting_names}
use Rattle.configure_run.proofs.asked.waiting_names.Given as goal

abbrev pub invariant-loop-entry : goal.invariant-loop-entry
invariant-loop-entry l = l.names.items ≡ waiting_names (take l.entry-index l.entry-items)
