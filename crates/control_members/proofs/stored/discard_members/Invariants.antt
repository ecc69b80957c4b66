use Rattle.std.proofs.Common.{◌≡◌, take, IsTrue}
use Rattle.host_core.specs.Host.{AtEachMoment, Silent, NoFault}
use Rattle.control_members.specs.Stored.{AreTaken, AreTaking, goes}
use Rattle.control_members.proofs.stored.discard_members.Given as goal

abbrev pub invariant-loop-name : goal.invariant-loop-name
invariant-loop-name g l = record {
  silent : Silent (g.H.Host.state l.fn.host) (g.H.Host.state l.host);
  counts : NoFault (g.H.Host.state l.fn.host) (g.H.Host.state l.host);
  taken : IsTrue (g.H.Host.state l.host).honest → AreTaken l.owner (goes (take l.name-index l.names) l.keep_postrm) (g.H.Host.state l.fn.host).world (g.H.Host.state l.host).world;
  any_moment : AtEachMoment (AreTaking l.owner (goes l.names l.keep_postrm)) (g.H.Host.state l.fn.host) (g.H.Host.state l.host);
}
