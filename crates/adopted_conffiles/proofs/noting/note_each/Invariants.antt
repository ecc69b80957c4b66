use Rattle.std.proofs.Common.{◌≡◌, false, take, IsTrue}
use Rattle.host_core.specs.Host.{AtEachMoment, Silent, NoFault}
use Rattle.host_core.specs.World.{KeepsBut}
use Rattle.status_db.specs.Held.{IsKept, is_record_place}
use Rattle.adopted_conffiles.specs.Adopting.{IsPutting, put_each}
use Rattle.adopted_conffiles.proofs.noting.note_each.Given as goal

abbrev pub invariant-loop-entry : goal.invariant-loop-entry
invariant-loop-entry g l =
    let old = g.H.Host.state l.fn.host in
    let now = g.H.Host.state l.host in
    record {
      opened : l.database.closed ≡ false;
      records : l.database.records ≡ put_each (take l.entry-index l.found) l.fn.database.records;
      kept : IsTrue now.honest → IsKept l.database now.world;
      rest : IsTrue now.honest → KeepsBut is_record_place old.world now.world;
      any_moment : AtEachMoment (IsPutting l.found l.fn.database.records) old now;
      silent : Silent old now;
      counts : NoFault old now;
    }
