use Rattle.std.proofs.Common.{take}
use Rattle.install_order.proofs.BearerLaws.{AreFound}
use Rattle.install_order.proofs.bearers.Bearers.meeters.Given as goal

abbrev pub invariant-loop-alternative : goal.invariant-loop-alternative
invariant-loop-alternative l = AreFound l.trees l.self.architectures.items (take l.alternative-index l.alternatives) l.list
