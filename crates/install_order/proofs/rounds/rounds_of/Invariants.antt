use Rattle.std.specs.List.{count_by}
use Rattle.install_order.proofs.TakingLaws.{IsAt}
use Rattle.install_order.proofs.rounds.rounds_of.Given as goal

abbrev pub invariant-loop-alloc : goal.invariant-loop-alloc
invariant-loop-alloc l = IsAt l.recorded l.trees l.taking.rounds.items l.taking.earlier.items l.taking.left.items

abbrev pub decreases-loop-alloc : goal.decreases-loop-alloc
decreases-loop-alloc l = count_by (λ b. b) l.taking.left.items
