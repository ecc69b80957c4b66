use Rattle.file_lists.proofs.Entries.{one_of}
use Rattle.file_lists.proofs.info.is_one_of.Goals as goal

pub returns-in-Some : goal.returns-in-Some
returns-in-Some c = one_of c.args.table.now c.args.ending.now c.args.entry.now c.in-Some.name.now c.find.result c.is_some.result c.in-Some.ensures.some c.is_some.ensures c.find.ensures.some c.find.ensures.none
