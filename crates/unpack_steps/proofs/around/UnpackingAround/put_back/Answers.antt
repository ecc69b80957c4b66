use Rattle.std.proofs.Common.{◌≡◌, ◌+◌, ◌≤◌, List, OnOk, length, sym, subst}
use Rattle.host_core.specs.Host.{AtEachMoment, Leaves}
use Rattle.administration.specs.Places.{list_path}
use Rattle.file_lists.specs.Writing.{list_file}
use Rattle.undo_rows.specs.Place.{Back}
use Rattle.package_files.specs.declared.work.Work.{Work}
use Rattle.package_files.specs.Files.{Each}
use Rattle.package_files.specs.Names.{AllInOrder, IsNamed}
use Rattle.package_files.specs.Back.{CanGoBack}
use Rattle.listed_files.specs.Listing.{HasUnlisted, MayUnlist}
use Rattle.unpack_steps.specs.At.{Holding}
use Rattle.unpack_steps.specs.FileMoves.{places_before}
use Rattle.unpack_steps.specs.Task.{Task, kinds, name}
use Rattle.unpack_steps.specs.Unpacking.{held_in, task_in}
use Rattle.unpack_steps.proofs.Answering.{back_placed}
use Rattle.unpack_steps.proofs.FileRow.{back_stops, can_go_back, enough, ordered_there}
use Rattle.unpack_steps.proofs.HookRows.{not_written}
use Rattle.unpack_steps.proofs.Hooks.{stops_here}
use Rattle.unpack_steps.proofs.RowKinds.{file_row}
use Rattle.scattered_losses.proofs.GoingApart.{goes_here}
use Rattle.status_db.specs.Held.{is_record_place}
use Rattle.unpack_steps.proofs.RecordsApart.{back_apart}
use Rattle.unpack_steps.proofs.around.UnpackingAround.put_back.Goals as goal

pub returns-then-fall-index-clause-place : goal.returns-then-fall-index-clause-place
returns-then-fall-index-clause-place g c =
    let self = c.args.self.now in
    let t : Task = task_in self in
    let h : Holding = held_in self in
    let s = g.H.Host.state c.args.host.now in
    let row = file_row (name t) (kinds t) c.args.index c.args._row.now c.requires.row c.requires.files in
    let at = c.requires.place in
    not_written t h s c.args.index c.args.fall.now c.args._failed.now row c.if-fall-index.true at

pub returns-then-fall-index-clause-any_moment : goal.returns-then-fall-index-clause-any_moment
returns-then-fall-index-clause-any_moment g c =
    let self = c.args.self.now in
    let t : Task = task_in self in
    let h : Holding = held_in self in
    let s = g.H.Host.state c.args.host.now in
    let at = c.requires.place in
    stops_here t h s (Back (c.args.index + 1) c.args.fall.now c.args._failed.now) at

pub put_back-requires-clause-opened : goal.put_back-requires-clause-opened
put_back-requires-clause-opened g c =
    c.requires.place.lists_open

pub put_back-requires-clause-name : goal.put_back-requires-clause-name
put_back-requires-clause-name g c =
    c.requires.place.sound.named

pub put_back-requires-clause-paths : goal.put_back-requires-clause-paths
put_back-requires-clause-paths g c =
    c.requires.place.sound.listed

pub put_back-requires-clause-ready : goal.put_back-requires-clause-ready
put_back-requires-clause-ready g c =
    λ h. (c.requires.place.world h).ready

pub put_back-requires-clause-named : goal.put_back-requires-clause-named
put_back-requires-clause-named g c =
    let self = c.args.self.now in
    let t : Task = task_in self in
    let s = g.H.Host.state c.args.host.now in
    let row = file_row (name t) (kinds t) c.args.index c.args._row.now c.requires.row c.requires.files in
    subst (Each IsNamed) (sym c.as_slice.ensures.value) (ordered_there t self.administration.now.database self.administration.now.lists self.administration.now.places self.works.now.items s c.args.index c.args.fall.now c.args._failed.now row c.if-fall-index.false c.requires.place).named

pub put_back-requires-clause-order : goal.put_back-requires-clause-order
put_back-requires-clause-order g c =
    let self = c.args.self.now in
    let t : Task = task_in self in
    let s = g.H.Host.state c.args.host.now in
    let row = file_row (name t) (kinds t) c.args.index c.args._row.now c.requires.row c.requires.files in
    subst AllInOrder (sym c.as_slice.ensures.value) (ordered_there t self.administration.now.database self.administration.now.lists self.administration.now.places self.works.now.items s c.args.index c.args.fall.now c.args._failed.now row c.if-fall-index.false c.requires.place).order

pub put_back-requires-clause-written : goal.put_back-requires-clause-written
put_back-requires-clause-written g c =
    let self = c.args.self.now in
    let t : Task = task_in self in
    let s = g.H.Host.state c.args.host.now in
    let row = file_row (name t) (kinds t) c.args.index c.args._row.now c.requires.row c.requires.files in
    λ h. subst (λ (l : List Work). CanGoBack l s.world) (sym c.as_slice.ensures.value) (can_go_back t self.administration.now.database self.administration.now.lists self.administration.now.places self.works.now.items s c.args.index c.args.fall.now c.args._failed.now row c.if-fall-index.false c.requires.place h)

pub put_back-requires-clause-grown : goal.put_back-requires-clause-grown
put_back-requires-clause-grown g c =
    let self = c.args.self.now in
    let t : Task = task_in self in
    let s = g.H.Host.state c.args.host.now in
    let row = file_row (name t) (kinds t) c.args.index c.args._row.now c.requires.row c.requires.files in
    subst (λ (l : List Work). length l ≤ length self.administration.now.places) (sym c.as_slice.ensures.value) (enough t self.administration.now.database self.administration.now.lists self.administration.now.places self.works.now.items s c.args.index c.args.fall.now c.args._failed.now row c.if-fall-index.false c.requires.place)

pub returns-clause-place : goal.returns-clause-place
returns-clause-place g c =
    let self = c.args.self.now in
    let t : Task = task_in self in
    let s = g.H.Host.state c.args.host.now in
    let row = file_row (name t) (kinds t) c.args.index c.args._row.now c.requires.row c.requires.files in
    let u = g.H.Host.state c.put_back.new.host in
    back_placed t self.administration.now.database self.administration.now.lists self.administration.now.places self.works.now.items s c.args.index c.args.fall.now c.args._failed.now row c.if-fall-index.false c.requires.place u c.put_back.ensures.silent c.put_back.result (λ so_far. MayUnlist (list_path (name t)) (list_file t.listed) c.as_slice.result.now s.world) c.put_back.ensures.any_moment
    c.put_back.new.lists c.put_back.new.places c.put_back.ensures.lists (subst (λ (l : List Work). OnOk c.put_back.result (c.put_back.new.places ≡ places_before self.administration.now.places l)) c.as_slice.ensures.value c.put_back.ensures.places)
    (subst (λ (l : List Work). Leaves c.put_back.result (HasUnlisted (list_path (name t)) (list_file t.listed) l) s u) c.as_slice.ensures.value c.put_back.ensures.unlisted)

pub returns-clause-any_moment : goal.returns-clause-any_moment
returns-clause-any_moment g c =
    let self = c.args.self.now in
    let t : Task = task_in self in
    let s = g.H.Host.state c.args.host.now in
    let row = file_row (name t) (kinds t) c.args.index c.args._row.now c.requires.row c.requires.files in
    let u = g.H.Host.state c.put_back.new.host in
    back_stops t self.administration.now.database self.administration.now.lists self.administration.now.places self.works.now.items s c.args.index c.args.fall.now c.args._failed.now row c.if-fall-index.false c.requires.place u c.put_back.ensures.silent
    (subst (λ (l : List Work). AtEachMoment (MayUnlist (list_path (name t)) (list_file t.listed) l) s u) c.as_slice.ensures.value c.put_back.ensures.any_moment)

pub returns-then-fall-index-clause-apart : goal.returns-then-fall-index-clause-apart
returns-then-fall-index-clause-apart g c = goes_here is_record_place (g.H.Host.state c.args.host.now)

pub returns-clause-apart : goal.returns-clause-apart
returns-clause-apart g c =
    let self = c.args.self.now in
    let t : Task = task_in self in
    let s = g.H.Host.state c.args.host.now in
    let row = file_row (name t) (kinds t) c.args.index c.args._row.now c.requires.row c.requires.files in
    let u = g.H.Host.state c.put_back.new.host in
    back_apart c.put_back.result (name t) (list_file t.listed) self.works.now.items
    (ordered_there t self.administration.now.database self.administration.now.lists self.administration.now.places self.works.now.items s c.args.index c.args.fall.now c.args._failed.now row c.if-fall-index.false c.requires.place).named
    s u
    (λ h. can_go_back t self.administration.now.database self.administration.now.lists self.administration.now.places self.works.now.items s c.args.index c.args.fall.now c.args._failed.now row c.if-fall-index.false c.requires.place (c.put_back.ensures.silent.honest h))
    (subst (λ (l : List Work). AtEachMoment (MayUnlist (list_path (name t)) (list_file t.listed) l) s u) c.as_slice.ensures.value c.put_back.ensures.any_moment)
