use Rattle.std.proofs.Common.{◌≡◌}
use Rattle.host_core.specs.Host.{Needs, Since, NoFault}
use Rattle.host_core.specs.Loss.{IsAnswered}
use Rattle.held_administration.specs.Open.{IsOpen}
use Rattle.held_administration.specs.Order.{IsInOrder}
use Rattle.undo_rows.specs.Transcript.{TellsAll}
use Rattle.unit_reports.specs.Held.{held_by}
use Rattle.unit_reports.specs.Units.{calls_of}
use Rattle.unit_reports.specs.Watching.{AddsTold}
use Rattle.unit_runs.specs.Turns.{GoesTo, HaveTurned, IsAmidTurns}
use Rattle.unit_runs.proofs.run.run_units.Given as goal

abbrev pub invariant-loop-unit : goal.invariant-loop-unit
invariant-loop-unit g l =
    let old = g.H.Host.state l.fn.host in
    let now = g.H.Host.state l.host in
    let before = held_by l.fn.administration (g.T.Turns.diverted l.fn.turns) in
    let mid = held_by l.administration (g.T.Turns.diverted l.turns) in
    let task = g.T.Turns.task l.fn.turns in
    let start = g.T.Turns.left l.fn.turns in
    let left = g.T.Turns.left l.turns in
    record {
      turned : HaveTurned (g.T.Turns.turn task) start before old l.fn.units.items l.units.items left mid now;
      between : g.T.Turns.between l.turns l.administration;
      is_open : IsOpen (g.T.Turns.diverted l.turns).ways l.administration;
      order : Needs now (IsInOrder l.administration.database l.administration.lists.lists);
      answered : IsAnswered old now;
      told : TellsAll old now (calls_of l.fn.units.items) (calls_of l.units.items);
      moments : Since (IsAmidTurns (g.T.Turns.turn task) (g.T.Turns.amid task) (λ later. GoesTo (g.T.Turns.goes task) later left) start before old) old now;
      no_fault : NoFault old now;
      same_task : g.T.Turns.task l.turns ≡ task;
      goes : GoesTo (g.T.Turns.goes task) start left;
      watched : AddsTold g.W.Watcher.tells old l.fn.units.items l.units.items l.fn.watcher l.watcher;
    }

abbrev pub decreases-loop-unit : goal.decreases-loop-unit
decreases-loop-unit g l = g.T.Turns.size (g.T.Turns.left l.turns)
