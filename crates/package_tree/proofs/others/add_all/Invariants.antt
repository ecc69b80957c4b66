use Rattle.std.proofs.Common.{◌≡◌, length, Some}
use Rattle.std.specs.Prelude.{IsTrue}
use Rattle.std.specs.List.{AllByRecursion}
use Rattle.std.specs.BTreeSet.{contains_text}
use Rattle.host_core.specs.Host.{Reads, Silent, NoFault}
use Rattle.host_core.specs.World.{kind_of}
use Rattle.host_core.specs.declared.node.Kind.TheVariants.{File}
use Rattle.package_tree.specs.OtherFiles.{names_of, control_member}
use Rattle.package_tree.specs.Owners.{root_at}
use Rattle.package_tree.proofs.Drawn.{IsDrawn, HasKept}
use Rattle.package_tree.proofs.others.add_all.Given as goal

abbrev pub invariant-loop-text : goal.invariant-loop-text
invariant-loop-text g l = record {
  drawn : IsDrawn (contains_text l.initial.left) (contains_text l.left) (names_of l.others.items);
  nodes : IsTrue (g.H.Host.state l.host).honest → AllByRecursion (λ other. root_at ((g.H.Host.state l.fn.host).world (control_member other.name)) ≡ Some other.node) l.others.items;
  kept : IsTrue (g.H.Host.state l.host).honest → HasKept (λ q. kind_of ((g.H.Host.state l.fn.host).world (control_member q)) ≡ Some File) (contains_text l.initial.left) (contains_text l.left) (names_of l.others.items);
  reads : Reads (g.H.Host.state l.fn.host) (g.H.Host.state l.host);
  silent : Silent (g.H.Host.state l.fn.host) (g.H.Host.state l.host);
  counts : NoFault (g.H.Host.state l.fn.host) (g.H.Host.state l.host);
}

abbrev pub decreases-loop-text : goal.decreases-loop-text
decreases-loop-text g l = length l.left.keys
