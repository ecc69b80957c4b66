use Rattle.std.proofs.Common.{◌≡◌, ◌≤◌, length, drop}
use Rattle.host_core.specs.Host.{NoFault}
use Rattle.scattered_losses.proofs.GoingApart.{HasGone}
use Rattle.undo_rows.specs.Place.{Back}
use Rattle.undo_rows.specs.Stops.{AtEachStop}
use Rattle.undo_rows.specs.Telling.{Made}
use Rattle.undo_rows.specs.Undoing.{UndoesAll}
use Rattle.undo_rows.proofs.steps.unwind.Given as goal

abbrev pub invariant-loop-left : goal.invariant-loop-left
invariant-loop-left g l =
    let old = g.H.Host.state l.fn.host in
    let now = g.H.Host.state l.host in
    let A = g.A.Around in
    record {
      within : l.left ≤ length l.rows;
      undone : Made (λ ts. UndoesAll l.left (drop l.left l.rows) ts l.failed.items) old now l.fn.told.items l.told.items;
      place : A.at l.around now (Back l.left l.fall l.failed.items);
      any_moment : AtEachStop (A.stops (A.task l.fn.around)) old now;
      task : A.task l.around ≡ A.task l.fn.around;
      reference : A.reference l.around ≡ A.reference l.fn.around;
      apart : HasGone A.area old now;
      counts : NoFault old now;
    }

abbrev pub decreases-loop-left : goal.decreases-loop-left
decreases-loop-left g l = l.left
