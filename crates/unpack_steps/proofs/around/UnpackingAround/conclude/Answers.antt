use Rattle.undo_rows.specs.Place.{Ready}
use Rattle.unpack_steps.proofs.Hooks.{stops_here}
use Rattle.unpack_steps.proofs.HookRows.{concluded}
use Rattle.unpack_steps.proofs.RowKinds.{kind_at, not_files}
use Rattle.unpack_steps.specs.At.{Holding}
use Rattle.unpack_steps.specs.Task.{Task, kinds, name}
use Rattle.unpack_steps.specs.Unpacking.{held_in, task_in}
use Rattle.scattered_losses.proofs.GoingApart.{goes_here}
use Rattle.status_db.specs.Held.{is_record_place}
use Rattle.unpack_steps.proofs.around.UnpackingAround.conclude.Goals as goal

pub returns-clause-place : goal.returns-clause-place
returns-clause-place g c =
    let self = c.args.self.now in
    let t : Task = task_in self in
    let h : Holding = held_in self in
    let s = g.H.Host.state c.args._host.now in
    let at = c.requires.place in
    let found = kind_at (kinds t) c.args._index c.requires.row.0 in
    let k = found.0 in
    let is = found.1 in
    concluded t h s c.args._index k c.requires.row.0 is c.args._succeeded (not_files (name t) k c.args._row.now.owner (c.requires.row.1 k is) c.requires.calls) at

pub returns-clause-any_moment : goal.returns-clause-any_moment
returns-clause-any_moment g c =
    let self = c.args.self.now in
    let t : Task = task_in self in
    let h : Holding = held_in self in
    let s = g.H.Host.state c.args._host.now in
    let at = c.requires.place in
    stops_here t h s (Ready c.args._index) at

pub returns-clause-apart : goal.returns-clause-apart
returns-clause-apart g c = goes_here is_record_place (g.H.Host.state c.args._host.now)
