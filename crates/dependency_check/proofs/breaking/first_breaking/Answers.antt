use Rattle.std.proofs.Common.{arith}
use Rattle.dependency_check.proofs.Breakers.{first_found, none_at_all, none_further}
use Rattle.dependency_check.proofs.breaking.first_breaking.Goals as goal

pub loop-number-init : goal.loop-number-init
loop-number-init c y inside breaks = absurd (omega (arith, inside.1))

pub loop-number-preserved : goal.loop-number-preserved
loop-number-preserved c = none_further c.args.packages.now c.args.of.now c.args.breakers.now c.loop-number.number-index c.loop-number-test.true c.loop-number.invariant c.is_breaking_at.result c.is_breaking_at.ensures c.if-is_breaking_at.false

pub returns-then-is_breaking_at : goal.returns-then-is_breaking_at
returns-then-is_breaking_at c = first_found c.args.packages.now c.args.of.now c.args.breakers.now c.loop-number.number-index c.loop-number-test.true c.loop-number.invariant c.requires c.is_breaking_at.result c.is_breaking_at.ensures c.if-is_breaking_at.true

pub returns : goal.returns
returns c = none_at_all c.args.packages.now c.args.of.now c.args.breakers.now c.loop-number.number-index c.requires (omega (arith, c.loop-number-test.false)) c.loop-number.invariant
