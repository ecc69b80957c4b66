use Rattle.std.proofs.Common.{◌≡◌, IsTrue}
use Rattle.host_core.specs.Host.{AtEachMoment, Silent, NoFault}
use Rattle.conffiles.specs.Settling.{AreSettling}
use Rattle.conffiles.proofs.SettlingLists.{IsFar}
use Rattle.conffiles.proofs.settling.apply.Given as goal

abbrev pub invariant-loop-entry : goal.invariant-loop-entry
invariant-loop-entry g l = record {
  silent : Silent (g.H.Host.state l.fn.host) (g.H.Host.state l.host);
  counts : NoFault (g.H.Host.state l.fn.host) (g.H.Host.state l.host);
  far : IsTrue (g.H.Host.state l.host).honest → IsFar l.list l.entry-index (g.H.Host.state l.fn.host).world (g.H.Host.state l.host).world;
  any_moment : AtEachMoment (AreSettling l.list) (g.H.Host.state l.fn.host) (g.H.Host.state l.host);
}
