use Rattle.std.proofs.Common.{◌≡◌, take, IsTrue}
use Rattle.host_core.specs.Host.{AtEachMoment, Silent, NoFault}
use Rattle.control_members.specs.LaidOut.{AreLaidOut, IsLaying}
use Rattle.control_members.proofs.incoming.put_all.Given as goal

abbrev pub invariant-loop-member : goal.invariant-loop-member
invariant-loop-member g l = record {
  silent : Silent (g.H.Host.state l.fn.host) (g.H.Host.state l.host);
  counts : NoFault (g.H.Host.state l.fn.host) (g.H.Host.state l.host);
  laid : IsTrue (g.H.Host.state l.host).honest → AreLaidOut (take l.member-index l.members) (g.H.Host.state l.host).world;
  any_moment : AtEachMoment IsLaying (g.H.Host.state l.fn.host) (g.H.Host.state l.host);
}
