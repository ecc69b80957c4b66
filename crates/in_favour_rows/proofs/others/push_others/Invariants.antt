use Rattle.std.proofs.Common.{◌≡◌, map, take, IsTrue}
use Rattle.host_core.specs.Host.{Reads, Silent, NoFault}
use Rattle.unpack_rows.specs.ForwardRows.{AreOwn, records_of}
use Rattle.in_favour_rows.specs.Entries.{entry_records}
use Rattle.in_favour_rows.specs.Rows.{AreRowsOf, other_package}
use Rattle.in_favour_rows.proofs.others.push_others.Given as goal

abbrev pub invariant-loop-entry : goal.invariant-loop-entry
invariant-loop-entry g l =
    let old = g.H.Host.state l.fn.host in
    let now = g.H.Host.state l.host in
    record {
      same : records_of l.others.items ≡ entry_records (take l.entry-index l.entries);
      own : AreOwn l.others.items;
      shaped : AreRowsOf l.incoming.name l.incoming.version (take l.entry-index l.entries) l.others.items;
      rows : IsTrue now.honest → l.others.items ≡ map (other_package l.incoming.name l.incoming.version old.world) (take l.entry-index l.entries);
      reads : Reads old now;
      silent : Silent old now;
      counts : NoFault old now;
    }
