use Rattle.std.proofs.Common.{◌≡◌, take}
use Rattle.removal_run.specs.Selected.{selected_names}
use Rattle.removal_run.proofs.selected.selected_names.Given as goal

abbrev pub invariant-loop-entry : goal.invariant-loop-entry
invariant-loop-entry l = l.names.items ≡ selected_names (take l.entry-index l.entry-items)
