use Rattle.administration.specs.Files.{NoDirectory, IsReplaced, IsReplacing}
use Rattle.status_db.specs.Held.{IsUnblocked}
use Rattle.status_db.specs.Notes.{below_limit, note_path}
use Rattle.status_db.proofs.Barriered.{disk_behind, left_between, moments_before, moments_behind, needs_behind}
use Rattle.status_db.proofs.NotedWorlds.{replacing_not}
use Rattle.host_core.proofs.Moments.{since_then, since_weaker}
use Rattle.administration.specs.Places.{updates_path}
use Rattle.status_db.proofs.RecordTurns.{later_by, note_alone, turns_from_barrier, turns_through_barrier, turns_to_barrier, waits_at, waits_before_barrier, waits_on}
use Rattle.status_db.proofs.noting.write_note.Goals as goal

pub returns-in_err-barrier-clause-any_moment : goal.returns-in_err-barrier-clause-any_moment
returns-in_err-barrier-clause-any_moment g c =
    let old = g.H.Host.state c.args.host.now in
    moments_before _ old old _ (IsReplacing (note_path c.args.number) c.args.node.now) (replacing_not c.args.number (below_limit c.args.number c.requires.number) c.args.node.now _ c.requires.unblocked) c.barrier.ensures.does

pub replace_note-requires-clause-unblocked : goal.replace_note-requires-clause-unblocked
replace_note-requires-clause-unblocked g c = needs_behind _ _ _ IsUnblocked c.barrier.ensures.does c.barrier.ensures.silent c.requires.unblocked

pub replace_note-requires-clause-target : goal.replace_note-requires-clause-target
replace_note-requires-clause-target g c = needs_behind _ _ _ (λ w. NoDirectory (w (note_path c.args.number))) c.barrier.ensures.does c.barrier.ensures.silent c.requires.target

pub returns-in_err-replace_note-clause-any_moment : goal.returns-in_err-replace_note-clause-any_moment
returns-in_err-replace_note-clause-any_moment g c =
    let old = g.H.Host.state c.args.host.now in
    moments_behind _ old _ _ (IsReplacing (note_path c.args.number) c.args.node.now) (replacing_not c.args.number (below_limit c.args.number c.requires.number) c.args.node.now _ c.requires.unblocked) c.barrier.ensures.does c.replace_note.ensures.any_moment

pub returns-clause-replaced : goal.returns-clause-replaced
returns-clause-replaced g c =
    left_between _ _ _ _ _ _ (IsReplaced (note_path c.args.number) c.args.node.now) c.barrier.ensures.does c.replace_note.ensures.silent c.in_ok-replace_note.ensures.replaced c.barrier-2.ensures.does c.barrier-2.ensures.silent

pub returns-clause-any_moment : goal.returns-clause-any_moment
returns-clause-any_moment g c =
    let old = g.H.Host.state c.args.host.now in
    moments_before _ old _ _ (IsReplacing (note_path c.args.number) c.args.node.now)
    (moments_behind _ old _ _ (IsReplacing (note_path c.args.number) c.args.node.now) (replacing_not c.args.number (below_limit c.args.number c.requires.number) c.args.node.now _ c.requires.unblocked) c.barrier.ensures.does c.replace_note.ensures.any_moment)
    c.barrier-2.ensures.does

pub returns-clause-on_disk : goal.returns-clause-on_disk
returns-clause-on_disk g c = disk_behind _ _ _ c.barrier-2.ensures.does

pub returns-in_err-barrier-clause-turns : goal.returns-in_err-barrier-clause-turns
returns-in_err-barrier-clause-turns g c = λ begun later turns. turns_to_barrier _ begun _ _ later turns c.barrier.ensures.does

pub returns-in_err-replace_note-clause-turns : goal.returns-in_err-replace_note-clause-turns
returns-in_err-replace_note-clause-turns g c = λ begun later turns.
    turns_from_barrier updates_path begun _ _ _ later turns c.in_ok-barrier.ensures.does (since_weaker _ _ _ _ (λ so_far w is. note_alone c.args.number c.args.node.now _ w is) c.replace_note.ensures.any_moment)

pub returns-clause-turns : goal.returns-clause-turns
returns-clause-turns g c = λ begun later turns.
    turns_through_barrier updates_path begun _ _ _ _ _ later turns c.in_ok-barrier.ensures.does
    (since_weaker _ _ _ _ (λ so_far w is. note_alone c.args.number c.args.node.now _ w is) c.replace_note.ensures.any_moment) c.barrier-2.ensures.does c.barrier-2.ensures.silent.honest

pub returns-in_err-barrier-clause-waits : goal.returns-in_err-barrier-clause-waits
returns-in_err-barrier-clause-waits g c = waits_at _ _ _ c.barrier.ensures.does

pub returns-in_err-replace_note-clause-waits : goal.returns-in_err-replace_note-clause-waits
returns-in_err-replace_note-clause-waits g c = waits_on (IsReplacing (note_path c.args.number) c.args.node.now) _ _ _ c.in_ok-barrier.ensures.does c.replace_note.ensures.any_moment

pub returns-clause-waits : goal.returns-clause-waits
returns-clause-waits g c =
    waits_before_barrier (IsReplacing (note_path c.args.number) c.args.node.now) _ _ _ _ _ c.in_ok-barrier.ensures.does c.replace_note.ensures.any_moment c.barrier-2.ensures.does
