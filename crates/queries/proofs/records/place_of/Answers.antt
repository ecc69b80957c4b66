use Rattle.std.proofs.Common.{arith}
use Rattle.queries.proofs.Ordered.{stops}
use Rattle.queries.proofs.records.place_of.Goals as goal

pub returns-then-not-is_before-clause-place : goal.returns-then-not-is_before-clause-place
returns-then-not-is_before-clause-place c =
    stops c.args.entry c.args.ordered.now c.loop-i.i c.index-ordered-i.result (omega (arith, c.loop-i-test.true)) c.index-ordered-i.is (let b = c.is_before.ensures in let t = c.if-not-is_before.true in cc) c.loop-i.invariant
