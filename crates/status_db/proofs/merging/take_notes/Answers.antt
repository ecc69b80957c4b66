use Rattle.std.proofs.Common.{rules, arith}
use Rattle.host_core.proofs.Moments.{since_then}
use Rattle.status_db.specs.Notes.{below_limit}
use Rattle.status_db.proofs.Taken.{since_taking, took_one, still_no_directory}
use Rattle.status_db.proofs.merging.take_notes.Goals as goal

pub discard_note-requires-clause-file : goal.discard_note-requires-clause-file
discard_note-requires-clause-file g c = λ h.
    still_no_directory c.loop-number.number c.loop-number.number (g.H.Host.state c.args.host.now).world _ (c.loop-number.invariant.taken h) (omega arith) (c.requires.files (c.loop-number.invariant.silent.honest h) c.loop-number.number c.loop-number-test.true)

pub returns-in_err-discard_note-clause-any_moment : goal.returns-in_err-discard_note-clause-any_moment
returns-in_err-discard_note-clause-any_moment g c =
    let old = (g.H.Host.state c.args.host.now).world in
    let before = c.loop-number.invariant in
    let within = below_limit c.loop-number.number (omega (arith, c.loop-number-test.true, c.requires.count)) in
    since_then _ _ _ _ before.any_moment (since_taking c.loop-number.number old _ _ within (λ h. before.taken (c.discard_note.ensures.silent.honest h)) c.discard_note.ensures.any_moment)

pub loop-number-preserved : goal.loop-number-preserved
loop-number-preserved g c =
    let old = (g.H.Host.state c.args.host.now).world in
    let before = c.loop-number.invariant in
    let within = below_limit c.loop-number.number (omega (arith, c.loop-number-test.true, c.requires.count)) in
    record {
      silent = search rules;
      counts = search rules;
      taken = λ h. took_one c.loop-number.number old _ _ within (before.taken (c.discard_note.ensures.silent.honest h)) (c.in_ok-discard_note.ensures.dropped h);
      any_moment = since_then _ _ _ _ before.any_moment (since_taking c.loop-number.number old _ _ within (λ h. before.taken (c.discard_note.ensures.silent.honest h)) c.discard_note.ensures.any_moment);
    }
