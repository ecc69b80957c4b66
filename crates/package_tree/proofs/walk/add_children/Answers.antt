use Rattle.std.specs.BTreeSet.{contains_text}
use Rattle.package_tree.proofs.Walks.{child_added}
use Rattle.package_tree.proofs.walk.add_children.Goals as goal

pub loop-name-preserved : goal.loop-name-preserved
loop-name-preserved c = λ q. child_added c.args.dir.now c.args.names.now c.loop-name.name-index c.name-item.result q
    (contains_text c.add_child.new.todo q) (contains_text c.loop-name.todo q) (contains_text c.args.todo.now q)
    c.loop-name-test.true c.name-item.is (c.in_ok-add_child.ensures q) (c.loop-name.invariant q)
