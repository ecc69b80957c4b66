use Rattle.std.proofs.Common.{◌≡◌, List, ◌++◌, length}
use Rattle.host_core.specs.Host.{NoFault, State}
use Rattle.scattered_losses.proofs.GoingApart.{HasGone}
use Rattle.undo_rows.specs.declared.rows.Called.{Called}
use Rattle.undo_rows.specs.Place.{Forward}
use Rattle.undo_rows.specs.Stops.{AtEachStop}
use Rattle.undo_rows.specs.Telling.{HasSucceeded}
use Rattle.undo_rows.proofs.run.step_rows.Given as goal

abbrev pub invariant-loop-row : goal.invariant-loop-row
invariant-loop-row g l =
    let old = g.H.Host.state l.fn.host in
    let now = g.H.Host.state l.host in
    let A = g.A.Around in
    let fault = A.file_step_fault (A.task l.fn.around) in
    record {
      left : l.fn.rows.items ≡ l.yielded ++ l.row-iterator.rest.items;
      stack : l.stack ≡ l.fn.stack ++ l.yielded;
      succeeded : (start : State) (before : List Called) → HasSucceeded fault l.fn.stack start old before l.fn.told.items → HasSucceeded fault (l.fn.stack ++ l.yielded) start now before l.told.items;
      place : A.at l.around now (Forward (length (l.fn.stack ++ l.yielded)));
      any_moment : AtEachStop (A.stops (A.task l.fn.around)) old now;
      task : A.task l.around ≡ A.task l.fn.around;
      reference : A.reference l.around ≡ A.reference l.fn.around;
      apart : HasGone A.area old now;
      counts : NoFault old now;
    }
