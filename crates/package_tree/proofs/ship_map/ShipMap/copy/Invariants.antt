use Rattle.std.proofs.Common.{◌≡◌, take}
use Rattle.package_tree.proofs.ship_map.ShipMap.copy.Given as goal

abbrev pub invariant-loop-file : goal.invariant-loop-file
invariant-loop-file l = l.items.items ≡ take l.file-index l.file-items
