use Rattle.std.proofs.Common.{arith}
use Rattle.diversions.proofs.LinesIn.{line_at, only_line}
use Rattle.diversions.proofs.lines.cut_line.Goals as goal

pub returns-then-b-eq10-clause-cut : goal.returns-then-b-eq10-clause-cut
returns-then-b-eq10-clause-cut c =
    line_at c.args.text.now _ _ c.loop-at.at c.loop-at-test.true c.split_at.ensures.front c.split_at.ensures.front_len c.split_at.ensures.back c.if-b-eq10.true c.loop-at.invariant

pub returns-clause-cut : goal.returns-clause-cut
returns-clause-cut c = only_line c.args.text.now _ _ c.requires (λ k lt e. c.loop-at.invariant k (omega (arith, lt, c.loop-at-test.false)) e) c.split_at-2.ensures.front c.split_at-2.ensures.back
