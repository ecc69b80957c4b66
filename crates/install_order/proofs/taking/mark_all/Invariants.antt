use Rattle.std.proofs.Common.{take}
use Rattle.install_order.specs.Taking.{AreMarked}
use Rattle.install_order.proofs.taking.mark_all.Given as goal

abbrev pub invariant-loop-number : goal.invariant-loop-number
invariant-loop-number l = AreMarked l.value (take l.number-index l.numbers) l.initial.set.items l.set.items
