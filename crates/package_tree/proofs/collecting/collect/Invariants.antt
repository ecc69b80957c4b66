use Rattle.std.proofs.Common.{◌≡◌, ◌≤◌, take, Some}
use Rattle.std.specs.Prelude.{IsTrue}
use Rattle.std.specs.List.{AllByRecursion}
use Rattle.host_core.specs.Host.{Reads, Silent, NoFault}
use Rattle.package_tree.specs.ShipMap.{paths_of, IsLarge}
use Rattle.package_tree.proofs.collecting.collect.Given as goal

abbrev pub invariant-loop-index : goal.invariant-loop-index
invariant-loop-index g l = record {
  paths : paths_of l.files.items ≡ take l.index l.paths;
  few : l.index ≤ 65536;
  nodes : IsTrue (g.H.Host.state l.host).honest → AllByRecursion (λ file. (g.H.Host.state l.fn.host).world file.path ≡ Some file.node) l.files.items;
  small : IsTrue (g.H.Host.state l.host).honest → AllByRecursion (λ q. IsLarge ((g.H.Host.state l.fn.host).world q) → ⊥) (take l.index l.paths);
  reads : Reads (g.H.Host.state l.fn.host) (g.H.Host.state l.host);
  silent : Silent (g.H.Host.state l.fn.host) (g.H.Host.state l.host);
  counts : NoFault (g.H.Host.state l.fn.host) (g.H.Host.state l.host);
}
