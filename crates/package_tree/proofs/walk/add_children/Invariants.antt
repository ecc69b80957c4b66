use Rattle.std.proofs.Common.{◌≡◌, List, ℕ, take}
use Rattle.std.specs.Prelude.{◌||◌}
use Rattle.std.specs.BTreeSet.{contains_text}
use Rattle.package_tree.specs.Walk.{is_child}
use Rattle.package_tree.proofs.walk.add_children.Given as goal

abbrev pub invariant-loop-name : goal.invariant-loop-name
invariant-loop-name l = (q : List ℕ) → contains_text l.todo q ≡ (is_child l.dir (take l.name-index l.names) q || contains_text l.fn.todo q)
