use Rattle.status_db.proofs.NotesRead.{taken_more, taken_none}
use Rattle.status_db.proofs.updates.read_if_marked.Goals as goal

pub returns-then-not-marked-clause-taken : goal.returns-then-not-marked-clause-taken
returns-then-not-marked-clause-taken g c = λ h before so_far. taken_none _ c.args.number before c.args.table.now c.args.count so_far (c.requires.none c.if-not-marked.true h)

pub returns-clause-taken : goal.returns-clause-taken
returns-clause-taken g c = λ h before so_far. taken_more _ c.args.number before c.args.table.now _ c.args.count so_far (c.in_ok-read_number.ensures.taken h)
