use Rattle.std.proofs.Common.{subst, sym}
use Rattle.host_core.proofs.Moments.{reads_then}
use Rattle.host_core.specs.World.{World}
use Rattle.administration.specs.Directories.{HasBadName}
use Rattle.administration.specs.Places.{updates_path}
use Rattle.status_db.specs.NoteReading.{AreNumbersTaken, IsNotesDamage}
use Rattle.status_db.proofs.NotesRead.{all_fine, all_free, all_held, notes_told}
use Rattle.status_db.proofs.noted_database.NotedDatabase.open.Goals as goal

pub returns-in-Ok-clause-records : goal.returns-in-Ok-clause-records
returns-in-Ok-clause-records g c = λ h.
    let w = (g.H.Host.state c.args.host.now).world in
    let taken = subst (λ (v : World). AreNumbersTaken v c.in-Ok.notes 10000 c.in_ok-table.table c.read_notes.new.table) c.read_status.ensures.reads.world (c.in-Ok.ensures.taken h) in
    all_held w c.in-Ok.notes c.in_ok-table.table c.read_notes.new.table c.law.ensures.order (c.in_ok-table.ensures.table (c.read_notes.ensures.silent.honest h)) taken

pub returns-in-Ok-clause-free : goal.returns-in-Ok-clause-free
returns-in-Ok-clause-free g c = λ h.
    let w = (g.H.Host.state c.args.host.now).world in
    let taken = subst (λ (v : World). AreNumbersTaken v c.in-Ok.notes 10000 c.in_ok-table.table c.read_notes.new.table) c.read_status.ensures.reads.world (c.in-Ok.ensures.taken h) in
    all_free w c.in-Ok.notes c.in_ok-table.table c.read_notes.new.table taken

pub returns-in-Ok-clause-notes : goal.returns-in-Ok-clause-notes
returns-in-Ok-clause-notes g c = λ h.
    let w = (g.H.Host.state c.args.host.now).world in
    let taken = subst (λ (v : World). AreNumbersTaken v c.in-Ok.notes 10000 c.in_ok-table.table c.read_notes.new.table) c.read_status.ensures.reads.world (c.in-Ok.ensures.taken h) in
    all_fine w c.in-Ok.notes c.in_ok-table.table c.read_notes.new.table (λ bad. c.in-Ok.ensures.text h (subst (λ (v : World). HasBadName v updates_path) (sym c.read_status.ensures.reads.world) bad)) taken

pub returns-in-Ok-clause-reads : goal.returns-in-Ok-clause-reads
returns-in-Ok-clause-reads g c = reads_then _ _ _ c.read_status.ensures.reads c.read_notes.ensures.reads

pub returns-in-Err-clause-damage : goal.returns-in-Err-clause-damage
returns-in-Err-clause-damage g c = λ h.
    let w = (g.H.Host.state c.args.host.now).world in
    notes_told w c.in_ok-table.table c.in-Err.fault (c.in_ok-table.ensures.table (c.read_notes.ensures.silent.honest h)) (subst (λ (v : World). IsNotesDamage v c.in-Err.fault) c.read_status.ensures.reads.world (c.in-Err.ensures.damage h))

pub returns-in-Err-clause-reads : goal.returns-in-Err-clause-reads
returns-in-Err-clause-reads g c = reads_then _ _ _ c.read_status.ensures.reads c.read_notes.ensures.reads
