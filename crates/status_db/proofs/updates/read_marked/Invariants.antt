use Rattle.std.proofs.Common.{◌≡◌, ◌≤◌, IsTrue}
use Rattle.host_core.specs.Host.{Reads, Silent, NoFault}
use Rattle.status_db.specs.NoteReading.{AreNumbersTaken}
use Rattle.status_db.proofs.updates.read_marked.Given as goal

abbrev pub invariant-loop-number : goal.invariant-loop-number
invariant-loop-number g l = record {
  reads : Reads (g.H.Host.state l.fn.host) (g.H.Host.state l.host);
  silent : Silent (g.H.Host.state l.fn.host) (g.H.Host.state l.host);
  counts : NoFault (g.H.Host.state l.fn.host) (g.H.Host.state l.host);
  within : l.count ≤ l.number;
  taken : IsTrue (g.H.Host.state l.host).honest → AreNumbersTaken (g.H.Host.state l.fn.host).world l.count l.number l.fn.table l.table;
}
