use Rattle.std.proofs.Common.{arith}
use Rattle.std.proofs.lemmas.Grind.{common_steps}
use Rattle.package_tree.proofs.control_file.name_of.Goals as goal

pub returns : goal.returns
returns c = grind (arith, common_steps)
