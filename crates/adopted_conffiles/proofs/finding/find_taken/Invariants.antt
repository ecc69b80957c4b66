use Rattle.std.proofs.Common.{◌≡◌, take, IsTrue}
use Rattle.host_core.specs.Host.{Reads, Silent, NoFault}
use Rattle.status_records.specs.Records.{AreStanding}
use Rattle.adopted_conffiles.specs.Adopted.{all_taken}
use Rattle.adopted_conffiles.proofs.finding.find_taken.Given as goal

abbrev pub invariant-loop-record : goal.invariant-loop-record
invariant-loop-record g l =
    let old = g.H.Host.state l.fn.host in
    let now = g.H.Host.state l.host in
    record {
      stand : AreStanding l.found.items;
      found : IsTrue now.honest → l.found.items ≡ all_taken old.world l.diversions.ways (take l.record-index l.records);
      reads : Reads old now;
      silent : Silent old now;
      counts : NoFault old now;
    }
