use Rattle.std.proofs.Common.{◌≡◌, take, IsTrue, is_some}
use Rattle.host_core.specs.Host.{AtEachMoment, Silent, NoFault}
use Rattle.control_members.specs.Members.{member_node}
use Rattle.control_members.specs.Stored.{AreTaken, AreTaking}
use Rattle.control_members.proofs.Taking.{leaving}
use Rattle.control_members.proofs.stored.discard_lacking.Given as goal

abbrev pub invariant-loop-name : goal.invariant-loop-name
invariant-loop-name g l = record {
  silent : Silent (g.H.Host.state l.fn.host) (g.H.Host.state l.host);
  counts : NoFault (g.H.Host.state l.fn.host) (g.H.Host.state l.host);
  taken : IsTrue (g.H.Host.state l.host).honest → AreTaken l.owner (leaving (λ name. is_some (member_node l.new name)) (take l.name-index l.old)) (g.H.Host.state l.fn.host).world (g.H.Host.state l.host).world;
  any_moment : AtEachMoment (AreTaking l.owner (leaving (λ name. is_some (member_node l.new name)) l.old)) (g.H.Host.state l.fn.host) (g.H.Host.state l.host);
}
