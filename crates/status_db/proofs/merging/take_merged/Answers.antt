use Rattle.std.specs.Prelude.{ℕ, ◌<◌}
use Rattle.host_core.proofs.Moments.{since_start}
use Rattle.administration.specs.Files.{NoDirectory}
use Rattle.status_db.specs.Notes.{note_path}
use Rattle.status_db.specs.Taking.{IsTaken, IsTakingNotes}
use Rattle.status_db.proofs.Barriered.{left_behind, moments_before, moments_behind, needs_behind}
use Rattle.status_db.proofs.Taken.{taken_none}
use Rattle.host_core.proofs.Moments.{since_weaker}
use Rattle.administration.specs.Places.{updates_path}
use Rattle.status_db.proofs.RecordTurns.{taking_alone, turns_from_barrier, turns_to_barrier}
use Rattle.status_db.proofs.merging.take_merged.Goals as goal

pub returns-in_err-barrier-clause-any_moment : goal.returns-in_err-barrier-clause-any_moment
returns-in_err-barrier-clause-any_moment g c =
    let old = g.H.Host.state c.args.host.now in
    moments_before _ old old _ IsTakingNotes (since_start (λ so_far. IsTakingNotes old.world) old (0, taken_none old.world)) c.barrier.ensures.does

pub take_notes-requires-clause-files : goal.take_notes-requires-clause-files
take_notes-requires-clause-files g c = needs_behind _ _ _ (λ w. (n : ℕ) → n < c.args.count → NoDirectory (w (note_path n))) c.barrier.ensures.does c.barrier.ensures.silent c.requires.files

pub returns-clause-taken : goal.returns-clause-taken
returns-clause-taken g c = left_behind _ _ _ _ _ (IsTaken c.args.count) c.barrier.ensures.does c.take_notes.ensures.silent c.take_notes.ensures.taken

pub returns-clause-any_moment : goal.returns-clause-any_moment
returns-clause-any_moment g c =
    let old = g.H.Host.state c.args.host.now in
    moments_behind _ old _ _ IsTakingNotes (since_start (λ so_far. IsTakingNotes old.world) old (0, taken_none old.world)) c.barrier.ensures.does c.take_notes.ensures.any_moment

pub returns-in_err-barrier-clause-turns : goal.returns-in_err-barrier-clause-turns
returns-in_err-barrier-clause-turns g c = λ begun later turns. turns_to_barrier _ begun _ _ later turns c.barrier.ensures.does

pub returns-clause-turns : goal.returns-clause-turns
returns-clause-turns g c = λ begun later turns. turns_from_barrier updates_path begun _ _ _ later turns c.in_ok-barrier.ensures.does (since_weaker _ _ _ _ (λ so_far w is. taking_alone _ w is) c.take_notes.ensures.any_moment)
