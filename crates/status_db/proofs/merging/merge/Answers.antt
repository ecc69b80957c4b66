use Rattle.std.proofs.Common.{sym, subst, arith}
use Rattle.status_db.specs.Notes.{below_limit}
use Rattle.status_db.specs.Noting.{IsStatusFile}
use Rattle.status_records.specs.Records.{AreApart}
use Rattle.status_db.proofs.NotedWorlds.{merged_by, notes_loose, since_merging, status_loose}
use Rattle.status_db.proofs.Ordered.{order_apart}
use Rattle.status_db.proofs.RecordTurns.{goes_here}
use Rattle.status_db.proofs.merging.merge.Goals as goal

pub status_node-requires : goal.status_node-requires
status_node-requires g c = subst AreApart (sym c.as_slice.ensures) (order_apart c.args.table.now c.law.ensures.order)

pub replace_notes-requires-clause-target : goal.replace_notes-requires-clause-target
replace_notes-requires-clause-target g c = λ h. status_loose _ c.args.table.now (c.requires.kept h).holds

pub replace_notes-requires-clause-files : goal.replace_notes-requires-clause-files
replace_notes-requires-clause-files g c = λ h n lt. notes_loose _ c.args.table.now n (c.requires.kept h).holds (below_limit n (omega (arith, lt, c.requires.count)))

pub returns-clause-merged : goal.returns-clause-merged
returns-clause-merged g c = λ h.
    merged_by c.replace_notes.result c.args.table.now c.in_ok-node.node (subst (IsStatusFile c.in_ok-node.node) c.as_slice.ensures c.in_ok-node.ensures) c.law.ensures.standing _ _ c.args.notes (c.requires.kept (c.replace_notes.ensures.silent.honest h)) (c.replace_notes.ensures.merged h)

pub returns-clause-any_moment : goal.returns-clause-any_moment
returns-clause-any_moment g c =
    since_merging c.args.table.now c.in_ok-node.node (subst (IsStatusFile c.in_ok-node.node) c.as_slice.ensures c.in_ok-node.ensures) c.law.ensures.standing _ _ c.args.notes (λ h. c.requires.kept (c.replace_notes.ensures.silent.honest h)) c.replace_notes.ensures.any_moment

pub returns-in_err-node-clause-turns : goal.returns-in_err-node-clause-turns
returns-in_err-node-clause-turns g c = goes_here _
