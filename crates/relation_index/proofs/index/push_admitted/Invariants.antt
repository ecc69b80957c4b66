use Rattle.std.proofs.Common.{take}
use Rattle.relation_index.specs.Bearing.{HasPushed}
use Rattle.relation_index.proofs.index.push_admitted.Given as goal

abbrev pub invariant-loop-number : goal.invariant-loop-number
invariant-loop-number l = HasPushed l.alternative l.packages (take l.number-index l.numbers) l.initial.list l.list
