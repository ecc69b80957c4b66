use Rattle.std.proofs.Common.{◌≡◌, map, take, IsTrue}
use Rattle.std.specs.List.{AllZip}
use Rattle.host_core.specs.Host.{Reads, Silent, NoFault}
use Rattle.configure_engine.specs.Decided.{decided_paths, IsDecidedOf}
use Rattle.configure_engine.specs.Waiting.{place_of}
use Rattle.configure_engine.proofs.decisions.decide_each.Given as goal

abbrev pub invariant-loop-path : goal.invariant-loop-path
invariant-loop-path g l =
    let old = g.H.Host.state l.fn.host in
    let now = g.H.Host.state l.host in
    let ways = l.diversions.ways in
    record {
      places : decided_paths l.list.items ≡ map (place_of ways) (take l.path-index l.paths);
      each : IsTrue now.honest → AllZip (IsDecidedOf l.entry l.policy ways old.world) (take l.path-index l.paths) l.list.items;
      reads : Reads old now;
      silent : Silent old now;
      counts : NoFault old now;
    }
