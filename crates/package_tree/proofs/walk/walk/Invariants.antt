use Rattle.std.proofs.Common.{◌≡◌}
use Rattle.std.specs.Prelude.{IsTrue}
use Rattle.std.specs.BTreeSet.{contains_text}
use Rattle.host_core.specs.Host.{Reads, Silent, NoFault}
use Rattle.package_tree.specs.Shipped.{AreInOrder, ArePathTexts}
use Rattle.package_tree.specs.Walk.{IsAmid, IsOrderly}
use Rattle.package_tree.proofs.walk.walk.Given as goal

abbrev pub invariant-loop : goal.invariant-loop
invariant-loop g l = record {
  amid : IsTrue (g.H.Host.state l.host).honest → IsAmid (g.H.Host.state l.fn.host).world l.found.items (contains_text l.todo);
  orderly : IsOrderly l.found.items (contains_text l.todo);
  order : AreInOrder l.found.items;
  texts : ArePathTexts l.found.items;
  reads : Reads (g.H.Host.state l.fn.host) (g.H.Host.state l.host);
  silent : Silent (g.H.Host.state l.fn.host) (g.H.Host.state l.host);
  counts : NoFault (g.H.Host.state l.fn.host) (g.H.Host.state l.host);
}
