use Rattle.std.proofs.Common.{◌≡◌, ◌∙◌, Err, ap, sym}
use Rattle.package_tree.specs.declared.fault.TreeFault.TheVariants.{NoMemory}
use Rattle.command_line.specs.Order.{looked_as}
use Rattle.command_line.proofs.ordering.look_at.Goals as goal

pub returns-else-is_want_of_memory-clause-read : goal.returns-else-is_want_of_memory-clause-read
returns-else-is_want_of_memory-clause-read g c = (
  c.look.result,
  c.look.ensures.read (λ is.
      let told = sym c.in-Err.is ∙ is in
      let same : c.in-Err.fault ≡ NoMemory = cc told in
      c.if-is_want_of_memory.ensures same),
  sym (ap looked_as c.in-Err.is),
)
