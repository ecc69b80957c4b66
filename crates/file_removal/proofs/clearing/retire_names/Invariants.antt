use Rattle.std.proofs.Common.{◌≡◌, IsTrue, take}
use Rattle.host_core.specs.Host.{AtEachMoment, Silent, NoFault}
use Rattle.file_removal.specs.Clearing.{Cleared, IsRetiring}
use Rattle.file_removal.specs.Lowering.{TookLowered}
use Rattle.file_removal.proofs.clearing.retire_names.Given as goal

abbrev pub invariant-loop-name : goal.invariant-loop-name
invariant-loop-name g l =
    let old = g.H.Host.state l.fn.host in
    let now = g.H.Host.state l.host in
    record {
      silent : Silent old now;
      counts : NoFault old now;
      cleared : IsTrue now.honest → Cleared (take l.name-index l.names) old.world now.world;
      any_moment : AtEachMoment (IsRetiring l.names) old now;
      lowered : TookLowered old now;
    }
