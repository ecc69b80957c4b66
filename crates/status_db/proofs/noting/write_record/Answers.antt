use Rattle.status_db.specs.Notes.{said_of}
use Rattle.status_records.specs.Records.{put_record}
use Rattle.status_db.proofs.NotedWorlds.{put_entered}
use Rattle.status_db.proofs.RecordTurns.{goes_here, noted_apart, works_here}
use Rattle.status_db.proofs.noting.write_record.Goals as goal

pub returns-clause-noted : goal.returns-clause-noted
returns-clause-noted g c = c.write_next.ensures.noted (said_of c.args.entry.now) (put_record c.args.entry.now c.args.table.now) c.in_ok-node.ensures (put_entered c.args.entry.now c.args.table.now c.law.ensures.order)

pub returns-clause-any_moment : goal.returns-clause-any_moment
returns-clause-any_moment g c = c.write_next.ensures.any_moment (said_of c.args.entry.now) (put_record c.args.entry.now c.args.table.now) c.in_ok-node.ensures (put_entered c.args.entry.now c.args.table.now c.law.ensures.order)

pub returns-in_err-node-clause-turns : goal.returns-in_err-node-clause-turns
returns-in_err-node-clause-turns g c = goes_here _

pub returns-in_err-node-clause-apart : goal.returns-in_err-node-clause-apart
returns-in_err-node-clause-apart g c = works_here _ _

pub returns-clause-apart : goal.returns-clause-apart
returns-clause-apart g c =
    noted_apart _ c.args.table.now (put_record c.args.entry.now c.args.table.now) _ _
    (c.write_next.ensures.any_moment (said_of c.args.entry.now) (put_record c.args.entry.now c.args.table.now) c.in_ok-node.ensures (put_entered c.args.entry.now c.args.table.now c.law.ensures.order))
    c.write_next.ensures.turns c.write_next.ensures.waits c.write_next.ensures.on_disk
