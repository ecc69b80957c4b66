use Rattle.std.proofs.Common.{subst}
use Rattle.host_core.specs.World.{World}
use Rattle.package_tree.specs.PathFaults.{HasGoodPaths}
use Rattle.package_tree.specs.Shipped.{AreShipped}
use Rattle.package_tree.proofs.reading.read_contents.Goals as goal

pub returns-clause-paths : goal.returns-clause-paths
returns-clause-paths g c = λ h. subst (λ (w : World). HasGoodPaths w × AreShipped w c.read_paths.new.paths.items) c.look_within.ensures.reads.world (c.in_ok-read_paths.ensures.paths h)
