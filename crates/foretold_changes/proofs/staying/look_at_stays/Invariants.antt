use Rattle.std.proofs.Common.{◌≡◌, ◌+◌, ◌≤◌, IsTrue, map, take}
use Rattle.std.specs.List.{AllByRecursion}
use Rattle.host_core.specs.Host.{Reads, Silent, faults}
use Rattle.foretold_changes.specs.Staying.{IsSeen, unread_stays}
use Rattle.foretold_changes.specs.declared.staying.LookedConffile.{LookedConffile}
use Rattle.foretold_changes.proofs.staying.look_at_stays.Given as goal

abbrev pub invariant-loop-conffile : goal.invariant-loop-conffile
invariant-loop-conffile g l =
    let old = g.H.Host.state l.fn.host in
    let now = g.H.Host.state l.host in
    record {
      each : map (λ (x : LookedConffile). x.conffile) l.stays.items ≡ take l.conffile-index l.conffiles;
      stay : IsTrue now.honest → AllByRecursion (IsSeen old.world) l.stays.items;
      few : unread_stays l.stays.items + faults old ≤ faults now;
      reads : Reads old now;
      silent : Silent old now;
    }
