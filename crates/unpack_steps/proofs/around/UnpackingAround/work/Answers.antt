use Rattle.std.proofs.Common.{sym, subst}
use Rattle.administration.specs.Places.{list_path}
use Rattle.file_check.specs.Ready.{IsFitting}
use Rattle.file_lists.specs.Writing.{list_file}
use Rattle.package_files.specs.Files.{Each}
use Rattle.unpack_steps.specs.FileMoves.{MayWriteRow}
use Rattle.unpack_steps.specs.Task.{Task, kinds, name}
use Rattle.unpack_steps.proofs.Answering.{row_judged, row_placed}
use Rattle.unpack_steps.proofs.FileRow.{named_here, works_before, writing_stops}
use Rattle.unpack_steps.specs.Unpacking.{task_in}
use Rattle.unpack_steps.proofs.RowKinds.{file_row}
use Rattle.unpack_steps.proofs.RecordsApart.{row_apart}
use Rattle.unpack_steps.proofs.around.UnpackingAround.work.Goals as goal

pub check_and_write-requires-clause-opened : goal.check_and_write-requires-clause-opened
check_and_write-requires-clause-opened g c =
    c.requires.place.lists_open

pub check_and_write-requires-clause-name : goal.check_and_write-requires-clause-name
check_and_write-requires-clause-name g c =
    c.requires.place.sound.named

pub check_and_write-requires-clause-paths : goal.check_and_write-requires-clause-paths
check_and_write-requires-clause-paths g c =
    c.requires.place.sound.union

pub check_and_write-requires-clause-listed_paths : goal.check_and_write-requires-clause-listed_paths
check_and_write-requires-clause-listed_paths g c =
    c.requires.place.sound.listed

pub check_and_write-requires-clause-ready : goal.check_and_write-requires-clause-ready
check_and_write-requires-clause-ready g c =
    λ h. (c.requires.place.world h).ready

pub check_and_write-requires-clause-named : goal.check_and_write-requires-clause-named
check_and_write-requires-clause-named g c =
    let self = c.args.self.now in
    let t : Task = task_in self in
    let s = g.H.Host.state c.args.host.now in
    let row = file_row (name t) (kinds t) c.args._index c.args._row.now c.requires.row c.requires.files in
    named_here t self.administration.now.database self.administration.now.lists self.administration.now.places self.works.now.items s c.args._index row c.requires.place

pub check_and_write-requires-clause-fitting : goal.check_and_write-requires-clause-fitting
check_and_write-requires-clause-fitting g c =
    let self = c.args.self.now in
    let t : Task = task_in self in
    let s = g.H.Host.state c.args.host.now in
    let row = file_row (name t) (kinds t) c.args._index c.args._row.now c.requires.row c.requires.files in
    subst (Each IsFitting) (sym (works_before t self.administration.now.database self.administration.now.lists self.administration.now.places self.works.now.items s c.args._index row c.requires.place)) c.requires.place.sound.fitting

pub returns-clause-fault : goal.returns-clause-fault
returns-clause-fault g c =
    let self = c.args.self.now in
    let t : Task = task_in self in
    let s = g.H.Host.state c.args.host.now in
    let row = file_row (name t) (kinds t) c.args._index c.args._row.now c.requires.row c.requires.files in
    let u = g.H.Host.state c.check_and_write.new.host in
    row_judged t self.administration.now.database self.administration.now.lists self.administration.now.places self.works.now.items s c.args._index row c.requires.place u c.check_and_write.ensures.silent c.check_and_write.result c.check_and_write.ensures.judged

pub returns-clause-place : goal.returns-clause-place
returns-clause-place g c =
    let self = c.args.self.now in
    let t : Task = task_in self in
    let s = g.H.Host.state c.args.host.now in
    let row = file_row (name t) (kinds t) c.args._index c.args._row.now c.requires.row c.requires.files in
    let u = g.H.Host.state c.check_and_write.new.host in
    row_placed t self.administration.now.database self.administration.now.lists self.administration.now.places self.works.now.items s c.args._index row c.requires.place u c.check_and_write.ensures.silent c.check_and_write.result (λ so_far. MayWriteRow (list_path (name t)) (list_file t.union) (list_file t.listed) self.works.now.items s.world) c.check_and_write.ensures.any_moment
    c.check_and_write.new.lists c.check_and_write.new.places c.check_and_write.new.works.items c.check_and_write.ensures.lists c.check_and_write.ensures.places c.check_and_write.ensures.works c.check_and_write.ensures.named
    c.check_and_write.ensures.order c.check_and_write.ensures.written

pub returns-clause-any_moment : goal.returns-clause-any_moment
returns-clause-any_moment g c =
    let self = c.args.self.now in
    let t : Task = task_in self in
    let s = g.H.Host.state c.args.host.now in
    let row = file_row (name t) (kinds t) c.args._index c.args._row.now c.requires.row c.requires.files in
    let u = g.H.Host.state c.check_and_write.new.host in
    writing_stops t self.administration.now.database self.administration.now.lists self.administration.now.places self.works.now.items s c.args._index row c.requires.place u c.check_and_write.ensures.silent c.check_and_write.ensures.any_moment

pub returns-clause-apart : goal.returns-clause-apart
returns-clause-apart g c =
    let self = c.args.self.now in
    let t : Task = task_in self in
    let s = g.H.Host.state c.args.host.now in
    let row = file_row (name t) (kinds t) c.args._index c.args._row.now c.requires.row c.requires.files in
    row_apart c.check_and_write.result (name t) (list_file t.union) (list_file t.listed) self.works.now.items
    (named_here t self.administration.now.database self.administration.now.lists self.administration.now.places self.works.now.items s c.args._index row c.requires.place)
    s (g.H.Host.state c.check_and_write.new.host) c.check_and_write.ensures.any_moment
