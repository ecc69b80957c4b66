use Rattle.std.proofs.Common.{take}
use Rattle.install_order.specs.Bearers.{admits_at, HasPushed}
use Rattle.install_order.proofs.bearers.push_admitted.Given as goal

abbrev pub invariant-loop-number : goal.invariant-loop-number
invariant-loop-number l = HasPushed (admits_at l.trees l.architectures l.alternative) (take l.number-index l.numbers) l.initial.list l.list
