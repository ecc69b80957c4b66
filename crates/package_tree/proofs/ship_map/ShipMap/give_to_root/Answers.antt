use Rattle.std.proofs.Common.{◌∙◌, sym, ap, subst}
use Rattle.package_tree.specs.ShipMap.{paths_of}
use Rattle.package_tree.specs.Shipped.{AreInOrder}
use Rattle.package_tree.specs.RootFitting.{root_paths}
use Rattle.package_tree.proofs.ship_map.ShipMap.give_to_root.Goals as goal

pub invariant_of-self : goal.invariant_of-self
invariant_of-self c = subst AreInOrder (sym (ap paths_of c.give_to_root.ensures ∙ root_paths c.self.inside.items.items)) c.self.invariant
