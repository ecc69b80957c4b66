use Rattle.status_db.proofs.NotedWorlds.{free_loose, merging_first, note_then, noted_then, number_few}
use Rattle.administration.specs.Files.{IsReplacing}
use Rattle.status_db.specs.Notes.{note_path}
use Rattle.status_db.specs.Noting.{IsMerging}
use Rattle.status_db.proofs.RecordTurns.{later_by, waits_too}
use Rattle.status_db.proofs.noting.write_next.Goals as goal

pub returns-in_err-make_room-clause-any_moment : goal.returns-in_err-make_room-clause-any_moment
returns-in_err-make_room-clause-any_moment g c = λ note after file entry. merging_first c.args.table.now after _ _ c.make_room.ensures.any_moment

pub write_note-requires-clause-target : goal.write_note-requires-clause-target
write_note-requires-clause-target g c = λ h. free_loose _ c.args.table.now c.make_room.new.notes (c.in_ok-make_room.ensures.room h).kept (number_few c.args.notes.now c.make_room.new.notes c.in_ok-make_room.ensures.number)

pub returns-in_err-write_note-clause-any_moment : goal.returns-in_err-write_note-clause-any_moment
returns-in_err-write_note-clause-any_moment g c = λ note after file entry.
    note_then c.args.table.now after c.args.notes.now c.make_room.new.notes note c.args.node.now _ _ _ (number_few c.args.notes.now c.make_room.new.notes c.in_ok-make_room.ensures.number) file entry
    c.make_room.ensures.any_moment (λ h. c.in_ok-make_room.ensures.room (c.write_note.ensures.silent.honest h)) c.write_note.ensures.any_moment

pub returns-clause-noted : goal.returns-clause-noted
returns-clause-noted g c = λ note after file entry h.
    noted_then c.args.table.now after c.args.notes.now c.make_room.new.notes note c.args.node.now _ _ _ (number_few c.args.notes.now c.make_room.new.notes c.in_ok-make_room.ensures.number) file entry
    (c.in_ok-make_room.ensures.room (c.write_note.ensures.silent.honest h)) (c.in_ok-write_note.ensures.replaced h)

pub returns-clause-any_moment : goal.returns-clause-any_moment
returns-clause-any_moment g c = λ note after file entry.
    note_then c.args.table.now after c.args.notes.now c.make_room.new.notes note c.args.node.now _ _ _ (number_few c.args.notes.now c.make_room.new.notes c.in_ok-make_room.ensures.number) file entry
    c.make_room.ensures.any_moment (λ h. c.in_ok-make_room.ensures.room (c.write_note.ensures.silent.honest h)) c.write_note.ensures.any_moment

pub returns-in_err-write_note-clause-turns : goal.returns-in_err-write_note-clause-turns
returns-in_err-write_note-clause-turns g c = λ h. c.write_note.ensures.turns _ (later_by (IsMerging c.args.table.now) _ _ c.make_room.ensures.any_moment) (c.make_room.ensures.turns (c.write_note.ensures.silent.honest h)) h

pub returns-clause-turns : goal.returns-clause-turns
returns-clause-turns g c = λ h. c.write_note.ensures.turns _ (later_by (IsMerging c.args.table.now) _ _ c.make_room.ensures.any_moment) (c.make_room.ensures.turns (c.write_note.ensures.silent.honest h)) h

pub returns-in_err-write_note-clause-waits : goal.returns-in_err-write_note-clause-waits
returns-in_err-write_note-clause-waits g c =
    waits_too (IsMerging c.args.table.now) (IsReplacing (note_path c.make_room.new.notes) c.args.node.now) _ _ _ c.make_room.ensures.any_moment c.write_note.ensures.any_moment c.make_room.ensures.waits c.write_note.ensures.waits

pub returns-clause-waits : goal.returns-clause-waits
returns-clause-waits g c =
    waits_too (IsMerging c.args.table.now) (IsReplacing (note_path c.make_room.new.notes) c.args.node.now) _ _ _ c.make_room.ensures.any_moment c.write_note.ensures.any_moment c.make_room.ensures.waits c.write_note.ensures.waits
