use Rattle.std.proofs.Common.{List, [], ◌++◌, Option, IfOk, subst}
use Rattle.host_core.specs.Host.{State}
use Rattle.undo_rows.specs.declared.rows.Called.{Called}
use Rattle.undo_rows.specs.declared.rows.Row.{Row}
use Rattle.undo_rows.specs.declared.unwinding.Unwinding.{Unwinding}
use Rattle.undo_rows.specs.Telling.{HasRun, HasSucceeded}
use Rattle.undo_rows.specs.Ended.{ended_as}
use Rattle.undo_rows.proofs.Listed.{nothing_done, where_ok}
use Rattle.undo_rows.proofs.run.run_rows.Goals as goal

pub returns-clause-calls : goal.returns-clause-calls
returns-clause-calls g c =
    let A = g.A.Around in
    let t = A.task c.args.around.now in
    let fault = A.file_step_fault t in
    let s = g.H.Host.state c.args.host.now in
    let d = g.H.Host.state c.run_part.new.host in
    let told = c.args.told.now.items in
    let now = c.run_part.new.told.items in
    let rows = c.args.rows.items in
    let behind = λ (there : List Row) (u : Option Unwinding). (start : State) (before : List Called) → HasSucceeded fault there start s before told → HasRun fault (ended_as u) (there ++ rows) start d before now in
    where_ok (behind []) (λ u. HasRun fault (ended_as u) rows s d told now) c.run_part.result (λ u run. run s told (c.steps_and_an_unwind_are_a_run.ensures.none t s s told (nothing_done s)))
    (subst (λ (l : List Row). IfOk c.run_part.result (behind l)) c.new-stack.ensures c.run_part.ensures.calls)
