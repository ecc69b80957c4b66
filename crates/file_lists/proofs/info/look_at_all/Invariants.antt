use Rattle.std.proofs.Common.{◌≡◌, IsTrue, length}
use Rattle.std.specs.BTreeSet.{contains_text}
use Rattle.host_core.specs.Host.{Reads, Silent, NoFault}
use Rattle.host_overlay.specs.Seen.{seen}
use Rattle.file_lists.proofs.Among.{IsAmid}
use Rattle.file_lists.proofs.info.look_at_all.Given as goal

abbrev pub invariant-loop-entry : goal.invariant-loop-entry
invariant-loop-entry g l = record {
  silent : Silent (g.H.Host.state l.fn.host) (g.H.Host.state l.host);
  counts : NoFault (g.H.Host.state l.fn.host) (g.H.Host.state l.host);
  reads : Reads (g.H.Host.state l.fn.host) (g.H.Host.state l.host);
  amid : IsTrue (g.H.Host.state l.host).honest → IsAmid (seen l.shown (g.H.Host.state l.fn.host).world) (contains_text l.fn.entries) (contains_text l.entries) l.fn.table l.table;
}

abbrev pub decreases-loop-entry : goal.decreases-loop-entry
decreases-loop-entry g l = length l.entries.keys
