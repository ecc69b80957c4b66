use Rattle.std.proofs.Common.{◌≡◌, map, take}
use Rattle.std.specs.Prelude.{option_copied}
use Rattle.install_order.specs.Clauses.{architecture_in}
use Rattle.install_order.proofs.bearers.architectures_in.Given as goal

abbrev pub invariant-loop-tree : goal.invariant-loop-tree
invariant-loop-tree l = l.list.items ≡ map (architecture_in (option_copied l.root)) (take l.tree-index l.trees)
