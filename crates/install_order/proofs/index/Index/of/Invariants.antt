use Rattle.std.proofs.Common.{take}
use Rattle.std.specs.BTreeMap.{get_by_text}
use Rattle.install_order.specs.Bearers.{IsIndex}
use Rattle.install_order.proofs.index.Index.of.Given as goal

abbrev pub invariant-loop-number : goal.invariant-loop-number
invariant-loop-number l = IsIndex (take l.number l.trees) (get_by_text l.index.slots) l.index.rows.items
