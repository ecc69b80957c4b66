use Rattle.std.proofs.Common.{take}
use Rattle.std.specs.BTreeMap.{get_by_text}
use Rattle.relation_index.specs.Bearing.{IsIndex}
use Rattle.relation_index.proofs.index.Index.of.Given as goal

abbrev pub invariant-loop-number : goal.invariant-loop-number
invariant-loop-number l = IsIndex (take l.number l.packages) (get_by_text l.index.slots) l.index.rows.items
