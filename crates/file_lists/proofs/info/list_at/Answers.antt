use Rattle.file_lists.proofs.Entries.{list_found, list_missing}
use Rattle.file_lists.proofs.info.list_at.Goals as goal

pub returns-in-Some-clause-some : goal.returns-in-Some-clause-some
returns-in-Some-clause-some c = list_found c.args.table.now c.args.entry.now c.in-Some.name.now c.find.result c.in-Some.ensures.some c.find.ensures.some

pub returns-in-Some-clause-none : goal.returns-in-Some-clause-none
returns-in-Some-clause-none c = list_missing c.args.table.now c.args.entry.now c.in-Some.name.now c.find.result c.in-Some.ensures.some c.find.ensures.none
