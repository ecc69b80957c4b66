use Rattle.std.proofs.Common.{◌≡◌, take, IsTrue}
use Rattle.host_core.specs.Host.{AtEachMoment, Silent, NoFault}
use Rattle.control_members.specs.Written.{AreWritten, AreWriting}
use Rattle.control_members.proofs.stored.put_members.Given as goal

abbrev pub invariant-loop-member : goal.invariant-loop-member
invariant-loop-member g l = record {
  silent : Silent (g.H.Host.state l.fn.host) (g.H.Host.state l.host);
  counts : NoFault (g.H.Host.state l.fn.host) (g.H.Host.state l.host);
  written : IsTrue (g.H.Host.state l.host).honest → AreWritten l.owner (take l.member-index l.members) (g.H.Host.state l.fn.host).world (g.H.Host.state l.host).world;
  any_moment : AtEachMoment (AreWriting l.owner l.members) (g.H.Host.state l.fn.host) (g.H.Host.state l.host);
}
