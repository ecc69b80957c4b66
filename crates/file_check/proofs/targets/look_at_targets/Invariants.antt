use Rattle.std.proofs.Common.{◌≡◌, IsTrue, take}
use Rattle.host_core.specs.Host.{Reads, Silent, NoFault}
use Rattle.package_files.specs.Files.{Each}
use Rattle.package_files.specs.Free.{IsSeen}
use Rattle.file_check.specs.Ready.{IsSameBut}
use Rattle.file_check.proofs.targets.look_at_targets.Given as goal

abbrev pub invariant-loop-work : goal.invariant-loop-work
invariant-loop-work g l =
    let old = g.H.Host.state l.fn.host in
    let now = g.H.Host.state l.host in
    record {
      same : IsSameBut l.fn.works l.works;
      seen : IsTrue now.honest → Each (IsSeen old.world) (take l.work-index l.works);
      reads : Reads old now;
      silent : Silent old now;
      counts : NoFault old now;
    }
