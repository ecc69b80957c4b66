use Rattle.std.proofs.Common.{◌≡◌, true, length}
use Rattle.std.specs.BTreeSet.{contains_text}
use Rattle.host_core.specs.Paths.{is_ship_text}
use Rattle.package_tree.proofs.Drawn.{IsDrawn, HasKept}
use Rattle.package_tree.proofs.line_names.in_order.Given as goal

abbrev pub invariant-loop-text : goal.invariant-loop-text
invariant-loop-text l = record {
  drawn : IsDrawn (contains_text l.initial.left) (contains_text l.left) l.paths.items;
  kept : HasKept (λ q. is_ship_text q ≡ true) (contains_text l.initial.left) (contains_text l.left) l.paths.items;
}

abbrev pub decreases-loop-text : goal.decreases-loop-text
decreases-loop-text l = length l.left.keys
