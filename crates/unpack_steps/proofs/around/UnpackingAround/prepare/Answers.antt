use Rattle.std.proofs.Common.{◌≡◌, IsTrue, List, get_or, sym, subst, rules}
use Rattle.host_core.specs.Host.{State}
use Rattle.undo_rows.specs.Place.{Forward, Ready}
use Rattle.undo_rows.proofs.Stops.{stops_then}
use Rattle.unpack_rows.specs.Notes.{note_before}
use Rattle.unpack_steps.specs.Notable.{IsNotable}
use Rattle.unpack_steps.proofs.Clears.{clear_place, clear_stops, members_needed}
use Rattle.unpack_steps.proofs.HookRows.{Leads, before_can, noted_moments, noted_place, prepared}
use Rattle.unpack_rows.specs.declared.kinds.RowKind.{RowKind}
use Rattle.unpack_steps.specs.At.{Holding, IsAt, Stops}
use Rattle.unpack_steps.specs.Task.{Task, has_gone, kinds, name}
use Rattle.unpack_steps.specs.Unpacking.{held_in, task_in}
use Rattle.scattered_losses.proofs.GoingApart.{fails_so, later_of, passed_on, works_behind}
use Rattle.status_db.specs.Held.{is_record_place}
use Rattle.unpack_steps.specs.Clearing.{clears_before}
use Rattle.unpack_steps.proofs.RecordsApart.{clear_gone}
use Rattle.unpack_steps.proofs.around.UnpackingAround.prepare.Goals as goal

pub clear_left-requires-clause-named : goal.clear_left-requires-clause-named
clear_left-requires-clause-named g c =
    let self = c.args.self.now in
    let t : Task = task_in self in
    let h : Holding = held_in self in
    let s = g.H.Host.state c.args.host.now in
    let at = c.requires.place in
    let k = c.kind-kind.result.now in
    let is : k ≡ get_or (kinds t) c.args.index k = subst (λ (l : List RowKind). k ≡ get_or l c.args.index k) self.kinds_are c.kind-kind.ensures in
    at.sound.named

pub clear_left-requires-clause-members : goal.clear_left-requires-clause-members
clear_left-requires-clause-members g c =
    let self = c.args.self.now in
    let t : Task = task_in self in
    let h : Holding = held_in self in
    let s = g.H.Host.state c.args.host.now in
    let at = c.requires.place in
    let k = c.kind-kind.result.now in
    let is : k ≡ get_or (kinds t) c.args.index k = subst (λ (l : List RowKind). k ≡ get_or l c.args.index k) self.kinds_are c.kind-kind.ensures in
    λ goes honest. members_needed t h s s c.args.index k c.requires.row.0 is at goes honest

pub clear_left-requires-clause-list : goal.clear_left-requires-clause-list
clear_left-requires-clause-list g c =
    let self = c.args.self.now in
    let t : Task = task_in self in
    let h : Holding = held_in self in
    let s = g.H.Host.state c.args.host.now in
    let at = c.requires.place in
    let k = c.kind-kind.result.now in
    let is : k ≡ get_or (kinds t) c.args.index k = subst (λ (l : List RowKind). k ≡ get_or l c.args.index k) self.kinds_are c.kind-kind.ensures in
    λ honest. (at.world honest).ready

pub returns-in_err-clear_left-clause-any_moment : goal.returns-in_err-clear_left-clause-any_moment
returns-in_err-clear_left-clause-any_moment g c =
    let self = c.args.self.now in
    let t : Task = task_in self in
    let h : Holding = held_in self in
    let s = g.H.Host.state c.args.host.now in
    let at = c.requires.place in
    let k = c.kind-kind.result.now in
    let is : k ≡ get_or (kinds t) c.args.index k = subst (λ (l : List RowKind). k ≡ get_or l c.args.index k) self.kinds_are c.kind-kind.ensures in
    let u = g.H.Host.state c.clear_left.new.host in
    let clearing = clear_stops t h s u c.args.index k c.requires.row.0 is at c.clear_left.ensures.silent c.clear_left.ensures.any_moment in
    clearing

pub returns-in_err-entry-clause-any_moment : goal.returns-in_err-entry-clause-any_moment
returns-in_err-entry-clause-any_moment g c =
    let self = c.args.self.now in
    let t : Task = task_in self in
    let h : Holding = held_in self in
    let s = g.H.Host.state c.args.host.now in
    let at = c.requires.place in
    let k = c.kind-kind.result.now in
    let is : k ≡ get_or (kinds t) c.args.index k = subst (λ (l : List RowKind). k ≡ get_or l c.args.index k) self.kinds_are c.kind-kind.ensures in
    let u = g.H.Host.state c.clear_left.new.host in
    let clearing = clear_stops t h s u c.args.index k c.requires.row.0 is at c.clear_left.ensures.silent c.clear_left.ensures.any_moment in
    clearing

pub write_note-requires-clause-notable : goal.write_note-requires-clause-notable
write_note-requires-clause-notable g c =
    let self = c.args.self.now in
    let t : Task = task_in self in
    let h : Holding = held_in self in
    let s = g.H.Host.state c.args.host.now in
    let at = c.requires.place in
    let k = c.kind-kind.result.now in
    let is : k ≡ get_or (kinds t) c.args.index k = subst (λ (l : List RowKind). k ≡ get_or l c.args.index k) self.kinds_are c.kind-kind.ensures in
    let entry_is : c.in_ok-entry.entry ≡ note_before t.found t.incoming k = search rules in
    subst IsNotable (sym entry_is) (before_can t h s c.args.index k c.requires.row.0 is)

pub write_note-requires-clause-kept : goal.write_note-requires-clause-kept
write_note-requires-clause-kept g c =
    let self = c.args.self.now in
    let t : Task = task_in self in
    let h : Holding = held_in self in
    let s = g.H.Host.state c.args.host.now in
    let at = c.requires.place in
    let k = c.kind-kind.result.now in
    let is : k ≡ get_or (kinds t) c.args.index k = subst (λ (l : List RowKind). k ≡ get_or l c.args.index k) self.kinds_are c.kind-kind.ensures in
    let u = g.H.Host.state c.clear_left.new.host in
    let now : IsAt t (has_gone t (Ready c.args.index)) h u (Forward c.args.index) = clear_place t h s u c.args.index k c.requires.row.0 is at c.clear_left.ensures.silent c.clear_left.ensures.any_moment c.in_ok-clear_left.ensures.cleared in
    λ honest. (now.world honest).kept

pub returns-clause-place : goal.returns-clause-place
returns-clause-place g c =
    let self = c.args.self.now in
    let t : Task = task_in self in
    let h : Holding = held_in self in
    let s = g.H.Host.state c.args.host.now in
    let at = c.requires.place in
    let k = c.kind-kind.result.now in
    let is : k ≡ get_or (kinds t) c.args.index k = subst (λ (l : List RowKind). k ≡ get_or l c.args.index k) self.kinds_are c.kind-kind.ensures in
    let u = g.H.Host.state c.clear_left.new.host in
    let now : IsAt t (has_gone t (Ready c.args.index)) h u (Forward c.args.index) = clear_place t h s u c.args.index k c.requires.row.0 is at c.clear_left.ensures.silent c.clear_left.ensures.any_moment c.in_ok-clear_left.ensures.cleared in
    let entry_is : c.in_ok-entry.entry ≡ note_before t.found t.incoming k = search rules in
    let v = g.H.Host.state c.write_note.new.host in
    let leads = subst (Leads t (has_gone t (Ready c.args.index)) h u (Forward c.args.index) (Ready c.args.index)) (sym entry_is) (prepared t h u c.args.index k c.requires.row.0 is) in
    noted_place t (has_gone t (Ready c.args.index)) h u v (Forward c.args.index) (Ready c.args.index) c.in_ok-entry.entry now leads c.write_note.ensures.silent c.write_note.result c.write_note.new.database c.write_note.ensures.any_moment c.write_note.ensures.records c.write_note.ensures.opened c.write_note.ensures.kept

pub returns-clause-any_moment : goal.returns-clause-any_moment
returns-clause-any_moment g c =
    let self = c.args.self.now in
    let t : Task = task_in self in
    let h : Holding = held_in self in
    let s = g.H.Host.state c.args.host.now in
    let at = c.requires.place in
    let k = c.kind-kind.result.now in
    let is : k ≡ get_or (kinds t) c.args.index k = subst (λ (l : List RowKind). k ≡ get_or l c.args.index k) self.kinds_are c.kind-kind.ensures in
    let u = g.H.Host.state c.clear_left.new.host in
    let clearing = clear_stops t h s u c.args.index k c.requires.row.0 is at c.clear_left.ensures.silent c.clear_left.ensures.any_moment in
    let now : IsAt t (has_gone t (Ready c.args.index)) h u (Forward c.args.index) = clear_place t h s u c.args.index k c.requires.row.0 is at c.clear_left.ensures.silent c.clear_left.ensures.any_moment c.in_ok-clear_left.ensures.cleared in
    let entry_is : c.in_ok-entry.entry ≡ note_before t.found t.incoming k = search rules in
    let v = g.H.Host.state c.write_note.new.host in
    let leads = subst (Leads t (has_gone t (Ready c.args.index)) h u (Forward c.args.index) (Ready c.args.index)) (sym entry_is) (prepared t h u c.args.index k c.requires.row.0 is) in
    stops_then (Stops t) s u v clearing
    (noted_moments t (has_gone t (Ready c.args.index)) h u v (Forward c.args.index) (Ready c.args.index) c.in_ok-entry.entry now leads c.write_note.ensures.silent c.write_note.ensures.any_moment)

pub returns-in_err-clear_left-clause-apart : goal.returns-in_err-clear_left-clause-apart
returns-in_err-clear_left-clause-apart g c =
    let self = c.args.self.now in
    let t : Task = task_in self in
    let s = g.H.Host.state c.args.host.now in
    let k = c.kind-kind.result.now in
    let u = g.H.Host.state c.clear_left.new.host in
    let cleared = clear_gone (clears_before t.found k) (name t) s u c.clear_left.ensures.any_moment in
    fails_so is_record_place c.from_residual.result s u cleared (passed_on _ _ c.from_residual.result c.from_residual.ensures.1)

pub returns-in_err-entry-clause-apart : goal.returns-in_err-entry-clause-apart
returns-in_err-entry-clause-apart g c =
    let self = c.args.self.now in
    let t : Task = task_in self in
    let s = g.H.Host.state c.args.host.now in
    let k = c.kind-kind.result.now in
    let u = g.H.Host.state c.clear_left.new.host in
    let cleared = clear_gone (clears_before t.found k) (name t) s u c.clear_left.ensures.any_moment in
    fails_so is_record_place c.from_residual-in_err-entry.result s u cleared (passed_on _ _ c.from_residual-in_err-entry.result c.from_residual-in_err-entry.ensures.1)

pub returns-clause-apart : goal.returns-clause-apart
returns-clause-apart g c =
    let self = c.args.self.now in
    let t : Task = task_in self in
    let s = g.H.Host.state c.args.host.now in
    let k = c.kind-kind.result.now in
    let u = g.H.Host.state c.clear_left.new.host in
    let cleared = clear_gone (clears_before t.found k) (name t) s u c.clear_left.ensures.any_moment in
    let v = g.H.Host.state c.write_note.new.host in
    works_behind is_record_place c.write_note.result s u v cleared (later_of _ u v c.write_note.ensures.any_moment) c.write_note.ensures.apart
