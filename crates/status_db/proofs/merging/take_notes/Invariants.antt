use Rattle.std.proofs.Common.{◌≡◌, IsTrue}
use Rattle.host_core.specs.Host.{AtEachMoment, Silent, NoFault}
use Rattle.status_db.specs.Taking.{IsTaken, IsTakingNotes}
use Rattle.status_db.proofs.merging.take_notes.Given as goal

abbrev pub invariant-loop-number : goal.invariant-loop-number
invariant-loop-number g l = record {
  silent : Silent (g.H.Host.state l.fn.host) (g.H.Host.state l.host);
  counts : NoFault (g.H.Host.state l.fn.host) (g.H.Host.state l.host);
  taken : IsTrue (g.H.Host.state l.host).honest → IsTaken l.number (g.H.Host.state l.fn.host).world (g.H.Host.state l.host).world;
  any_moment : AtEachMoment IsTakingNotes (g.H.Host.state l.fn.host) (g.H.Host.state l.host);
}
