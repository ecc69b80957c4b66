use Rattle.std.proofs.Common.{rules}
use Rattle.host_core.proofs.Moments.{silent_then}
use Rattle.adopted_conffiles.proofs.Putting.{moments_next, put_more, rest_kept}
use Rattle.adopted_conffiles.proofs.noting.note_each.Goals as goal

pub returns-in_err-note_copy-clause-any_moment : goal.returns-in_err-note_copy-clause-any_moment
returns-in_err-note_copy-clause-any_moment g c =
    let inv = c.loop-entry.invariant in
    let note = c.note_copy.ensures in
    moments_next c.args.found.now c.loop-entry.entry-index c.entry-item.result c.args.database.now.records c.loop-entry.database.records _ _ _ c.loop-entry-test.true c.entry-item.is inv.records inv.any_moment inv.rest note.silent.honest note.any_moment

pub loop-entry-preserved : goal.loop-entry-preserved
loop-entry-preserved g c =
    let inv = c.loop-entry.invariant in
    let note = c.note_copy.ensures in
    record {
      opened = c.in_ok-note_copy.ensures.opened;
      records = put_more c.args.found.now c.loop-entry.entry-index c.entry-item.result c.args.database.now.records c.loop-entry.database.records _ c.loop-entry-test.true c.entry-item.is inv.records c.in_ok-note_copy.ensures.records;
      kept = λ h. (c.in_ok-note_copy.ensures.kept h).kept;
      rest = λ h. rest_kept _ _ _ (inv.rest (note.silent.honest h)) (c.in_ok-note_copy.ensures.kept h).rest;
      any_moment = moments_next c.args.found.now c.loop-entry.entry-index c.entry-item.result c.args.database.now.records c.loop-entry.database.records _ _ _ c.loop-entry-test.true c.entry-item.is inv.records inv.any_moment inv.rest note.silent.honest note.any_moment;
      silent = silent_then _ _ _ inv.silent note.silent;
      counts = search rules;
    }
