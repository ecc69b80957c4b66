use Rattle.std.proofs.Common.{◌≡◌, take}
use Rattle.package_tree.proofs.ship_paths.ShipPaths.copy.Given as goal

abbrev pub invariant-loop-path : goal.invariant-loop-path
invariant-loop-path l = l.items.items ≡ take l.path-index l.path-items
