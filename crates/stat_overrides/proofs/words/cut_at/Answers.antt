use Rattle.std.proofs.Common.{arith, sym}
use Rattle.stat_overrides.proofs.Cutting.{cut_here, cut_nowhere}
use Rattle.stat_overrides.proofs.words.cut_at.Goals as goal

pub returns-then-byte-sign : goal.returns-then-byte-sign
returns-then-byte-sign c =
    cut_here c.args.sign c.args.text.now _ _ c.loop-at.at c.loop-at-test.true c.split_at.ensures.front c.split_at.ensures.front_len c.split_at.ensures.back c.if-byte-sign.true c.loop-at.invariant

pub returns : goal.returns
returns c = sym (cut_nowhere c.args.sign c.args.text.now (λ k lt e. c.loop-at.invariant k (omega (arith, lt, c.loop-at-test.false)) e))
