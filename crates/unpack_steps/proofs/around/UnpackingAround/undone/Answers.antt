use Rattle.std.proofs.Common.{◌≡◌, List, ◌+◌, ◌||◌, true, false, get_or, sym, subst, ◌∙◌, rules}
use Rattle.undo_rows.specs.Place.{Back, blamed}
use Rattle.unpack_rows.specs.Failures.{has_failed}
use Rattle.unpack_rows.specs.Notes.{note_undone}
use Rattle.unpack_steps.specs.Notable.{IsNotable}
use Rattle.unpack_steps.proofs.Hooks.{stops_here}
use Rattle.unpack_steps.proofs.HookRows.{Leads, noted_moments, noted_place, spared, undone, undone_can}
use Rattle.unpack_steps.proofs.RowKinds.{kind_at, not_files}
use Rattle.unpack_rows.specs.declared.kinds.RowKind.{RowKind}
use Rattle.unpack_steps.specs.At.{Holding}
use Rattle.unpack_steps.specs.Task.{Task, has_gone, kinds, name}
use Rattle.unpack_steps.specs.Unpacking.{held_in, task_in}
use Rattle.scattered_losses.proofs.GoingApart.{fails_so, goes_here, gone_here, passed_on}
use Rattle.status_db.specs.Held.{is_record_place}
use Rattle.unpack_steps.proofs.around.UnpackingAround.undone.Goals as goal

pub returns-then-is_spared-clause-place : goal.returns-then-is_spared-clause-place
returns-then-is_spared-clause-place g c =
    let self = c.args.self.now in
    let t : Task = task_in self in
    let h : Holding = held_in self in
    let s = g.H.Host.state c.args.host.now in
    let at = c.requires.place in
    let found = kind_at (kinds t) c.args.index c.requires.row.0 in
    let k = found.0 in
    let is = found.1 in
    let whose = c.requires.row.1 k is in
    let calls = not_files (name t) k c.args.row.now.owner whose c.requires.calls in
    let asked : (c.args.fails || has_failed c.args.index c.args.row.now.owner c.args.failed.now) ≡ true = sym c.is_spared.ensures ∙ c.if-is_spared.true in
    spared t h s c.args.index k c.requires.row.0 is c.args._fall.now c.args.fails c.args.failed.now c.args.row.now.owner whose calls at asked

pub returns-then-is_spared-clause-any_moment : goal.returns-then-is_spared-clause-any_moment
returns-then-is_spared-clause-any_moment g c =
    let self = c.args.self.now in
    let t : Task = task_in self in
    let h : Holding = held_in self in
    let s = g.H.Host.state c.args.host.now in
    let at = c.requires.place in
    stops_here t h s (Back (c.args.index + 1) c.args._fall.now c.args.failed.now) at

pub returns-in_err-entry-clause-any_moment : goal.returns-in_err-entry-clause-any_moment
returns-in_err-entry-clause-any_moment g c =
    let self = c.args.self.now in
    let t : Task = task_in self in
    let h : Holding = held_in self in
    let s = g.H.Host.state c.args.host.now in
    let at = c.requires.place in
    stops_here t h s (Back (c.args.index + 1) c.args._fall.now c.args.failed.now) at

pub write_note-requires-clause-notable : goal.write_note-requires-clause-notable
write_note-requires-clause-notable g c =
    let self = c.args.self.now in
    let t : Task = task_in self in
    let h : Holding = held_in self in
    let s = g.H.Host.state c.args.host.now in
    let at = c.requires.place in
    let k = c.kind-kind.result.now in
    let is : k ≡ get_or (kinds t) c.args.index k = subst (λ (l : List RowKind). k ≡ get_or l c.args.index k) self.kinds_are c.kind-kind.ensures in
    let entry_is : c.in_ok-entry.entry ≡ note_undone t.found t.incoming k = search rules in
    subst IsNotable (sym entry_is) (undone_can t h s c.args.index k c.requires.row.0 is at)

pub write_note-requires-clause-kept : goal.write_note-requires-clause-kept
write_note-requires-clause-kept g c =
    let self = c.args.self.now in
    let t : Task = task_in self in
    let h : Holding = held_in self in
    let s = g.H.Host.state c.args.host.now in
    let at = c.requires.place in
    λ honest. (at.world honest).kept

pub returns-clause-place : goal.returns-clause-place
returns-clause-place g c =
    let self = c.args.self.now in
    let t : Task = task_in self in
    let h : Holding = held_in self in
    let s = g.H.Host.state c.args.host.now in
    let at = c.requires.place in
    let k = c.kind-kind.result.now in
    let is : k ≡ get_or (kinds t) c.args.index k = subst (λ (l : List RowKind). k ≡ get_or l c.args.index k) self.kinds_are c.kind-kind.ensures in
    let entry_is : c.in_ok-entry.entry ≡ note_undone t.found t.incoming k = search rules in
    let whose = c.requires.row.1 k is in
    let calls = not_files (name t) k c.args.row.now.owner whose c.requires.calls in
    let asked : (c.args.fails || has_failed c.args.index c.args.row.now.owner c.args.failed.now) ≡ false = sym c.is_spared.ensures ∙ c.if-is_spared.false in
    let before = Back (c.args.index + 1) c.args._fall.now c.args.failed.now in
    let after = Back c.args.index c.args._fall.now (blamed c.args.fails c.args.index c.args.row.now.owner c.args.failed.now) in
    let u = g.H.Host.state c.write_note.new.host in
    let leads = subst (Leads t (has_gone t before) h s before after) (sym entry_is) (undone t h s c.args.index k c.requires.row.0 is c.args._fall.now c.args.fails c.args.failed.now c.args.row.now.owner whose calls at asked) in
    noted_place t (has_gone t before) h s u before after c.in_ok-entry.entry at leads c.write_note.ensures.silent c.write_note.result c.write_note.new.database c.write_note.ensures.any_moment c.write_note.ensures.records c.write_note.ensures.opened c.write_note.ensures.kept

pub returns-clause-any_moment : goal.returns-clause-any_moment
returns-clause-any_moment g c =
    let self = c.args.self.now in
    let t : Task = task_in self in
    let h : Holding = held_in self in
    let s = g.H.Host.state c.args.host.now in
    let at = c.requires.place in
    let k = c.kind-kind.result.now in
    let is : k ≡ get_or (kinds t) c.args.index k = subst (λ (l : List RowKind). k ≡ get_or l c.args.index k) self.kinds_are c.kind-kind.ensures in
    let entry_is : c.in_ok-entry.entry ≡ note_undone t.found t.incoming k = search rules in
    let whose = c.requires.row.1 k is in
    let calls = not_files (name t) k c.args.row.now.owner whose c.requires.calls in
    let asked : (c.args.fails || has_failed c.args.index c.args.row.now.owner c.args.failed.now) ≡ false = sym c.is_spared.ensures ∙ c.if-is_spared.false in
    let before = Back (c.args.index + 1) c.args._fall.now c.args.failed.now in
    let after = Back c.args.index c.args._fall.now (blamed c.args.fails c.args.index c.args.row.now.owner c.args.failed.now) in
    let u = g.H.Host.state c.write_note.new.host in
    let leads = subst (Leads t (has_gone t before) h s before after) (sym entry_is) (undone t h s c.args.index k c.requires.row.0 is c.args._fall.now c.args.fails c.args.failed.now c.args.row.now.owner whose calls at asked) in
    noted_moments t (has_gone t before) h s u before after c.in_ok-entry.entry at leads c.write_note.ensures.silent c.write_note.ensures.any_moment

pub returns-then-is_spared-clause-apart : goal.returns-then-is_spared-clause-apart
returns-then-is_spared-clause-apart g c = goes_here is_record_place (g.H.Host.state c.args.host.now)

pub returns-in_err-entry-clause-apart : goal.returns-in_err-entry-clause-apart
returns-in_err-entry-clause-apart g c =
    let s = g.H.Host.state c.args.host.now in
    fails_so is_record_place c.from_residual.result s s (gone_here is_record_place s) (passed_on _ _ c.from_residual.result c.from_residual.ensures.1)

pub returns-clause-apart : goal.returns-clause-apart
returns-clause-apart g c = c.write_note.ensures.apart
