use Rattle.std.proofs.Common.{◌≡◌, ◌++◌, None}
use Rattle.host_core.specs.Host.{AtEachMomentOf, Needs, NoFault}
use Rattle.held_administration.specs.Open.{IsOpen}
use Rattle.held_administration.specs.Order.{IsInOrder}
use Rattle.unit_stages.specs.Holding.{holding_of}
use Rattle.unit_stages.specs.Running.{AreRunning}
use Rattle.unit_stages.specs.Runs.{HaveRun}
use Rattle.unit_stages.proofs.Apart.{GoesApart}
use Rattle.unit_stages.proofs.running.run_stages.Given as goal

abbrev pub invariant-loop-stage : goal.invariant-loop-stage
invariant-loop-stage g l =
    let old = g.H.Host.state l.fn.host in
    let now = g.H.Host.state l.host in
    let name = l.fn.name in
    let ways = l.fn.diversions.ways in
    record {
      left : l.fn.stages.items ≡ l.yielded ++ l.stage-iterator.rest.items;
      ran : HaveRun name ways l.yielded None (holding_of l.fn.administration) (holding_of l.administration) old now l.fn.told.items l.told.items;
      order : Needs now (IsInOrder l.administration.database l.administration.lists.lists);
      is_open : IsOpen ways l.administration;
      any_moment : AtEachMomentOf (AreRunning name ways l.fn.stages.items (holding_of l.fn.administration)) old now;
      counts : NoFault old now;
      apart : GoesApart old now;
    }
