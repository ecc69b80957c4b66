use Rattle.diversions.proofs.Joining.{joins, joins_not}
use Rattle.diversions.proofs.reading.may_follow.Goals as goal

pub returns-then-is_free : goal.returns-then-is_free
returns-then-is_free c = joins c.args.table.now c.args.entry.now c.is_free.result c.is_free-then-is_free.result _ _ c.as_str.ensures c.as_str-then-is_free.ensures c.law.ensures c.requires c.if-is_free.true c.is_free.ensures c.is_free-then-is_free.ensures

pub returns-else-is_free : goal.returns-else-is_free
returns-else-is_free c = joins_not c.args.table.now c.args.entry.now c.is_free.result _ c.as_str.ensures c.if-is_free.false c.is_free.ensures
