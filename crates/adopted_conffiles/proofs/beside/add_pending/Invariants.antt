use Rattle.std.proofs.Common.{◌≡◌, map, take, IsTrue}
use Rattle.std.specs.List.{flat_map}
use Rattle.host_core.specs.Host.{Reads, Silent, NoFault}
use Rattle.host_core.specs.Paths.{Path}
use Rattle.adopted_conffiles.specs.Adopted.{AreBefore, pending_of}
use Rattle.adopted_conffiles.proofs.Pending.{EntriesBefore}
use Rattle.adopted_conffiles.proofs.beside.add_pending.Given as goal

abbrev pub invariant-loop-entry : goal.invariant-loop-entry
invariant-loop-entry g l =
    let old = g.H.Host.state l.fn.host in
    let now = g.H.Host.state l.host in
    record {
      before : (q : Path) → EntriesBefore q (take l.entry-index l.record.conffiles) → AreBefore q l.pending;
      pending : IsTrue now.honest → l.pending ≡ flat_map (pending_of old.world l.diversions.ways) (take l.entry-index l.record.conffiles);
      reads : Reads old now;
      silent : Silent old now;
      counts : NoFault old now;
    }
