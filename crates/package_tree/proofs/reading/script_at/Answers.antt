use Rattle.package_tree.proofs.Owning.{root_script}
use Rattle.package_tree.proofs.reading.script_at.Goals as goal

pub returns-in-Some : goal.returns-in-Some
returns-in-Some c = rw c.in-Some.is (λ right. root_script c.in-Some.node c.give_to_root.new.node _ c.give_to_root.ensures c.from_node.ensures right)
