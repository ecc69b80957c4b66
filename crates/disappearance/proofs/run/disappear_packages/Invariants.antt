use Rattle.std.proofs.Common.{take}
use Rattle.host_core.specs.Host.{Needs, Since, NoFault}
use Rattle.held_administration.specs.Open.{IsOpen}
use Rattle.recorded_packages.specs.Packages.{ArePackagesOf}
use Rattle.held_administration.specs.Order.{IsInOrder}
use Rattle.unit_stages.specs.Holding.{holding_of}
use Rattle.disappearance.specs.Runs.{HaveDisappeared, IsAmidDisappearances}
use Rattle.disappearance.proofs.run.disappear_packages.Given as goal

abbrev pub invariant-loop-one : goal.invariant-loop-one
invariant-loop-one g l =
    let old = g.H.Host.state l.fn.host in
    let now = g.H.Host.state l.host in
    let before = holding_of l.fn.administration in
    let ways = l.diversions.ways in
    record {
      disappeared : HaveDisappeared l.incoming l.version ways (take l.one-index l.losing) l.names l.failed before (holding_of l.administration) old now l.fn.told.items l.told.items;
      order : Needs now (IsInOrder l.administration.database l.administration.lists.lists);
      is_open : IsOpen ways l.administration;
      indexed : ArePackagesOf l.administration.database.records l.packages;
      moments : Since (IsAmidDisappearances l.incoming l.version ways l.losing before old) old now;
      counts : NoFault old now;
    }
