use Rattle.std.proofs.Common.{take}
use Rattle.relation_index.specs.Bearing.{HasStated}
use Rattle.relation_index.proofs.clauses.push_clauses.Given as goal

abbrev pub invariant-loop-one : goal.invariant-loop-one
invariant-loop-one l = HasStated l.packages l.owner (take l.one-index l.stated) l.initial.list.items l.list.items
