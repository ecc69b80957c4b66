use Rattle.verification.proofs.SumTables.{more_lines}
use Rattle.verification.proofs.sums.Sums.of_text.Goals as goal

pub loop-rest-preserved : goal.loop-rest-preserved
loop-rest-preserved c =
    more_lines _ _ c.args.text.now c.loop-rest.rest.now c.cut_line.result.0.now c.cut_line.result.1.now c.cut_line.ensures.cut c.in_ok-take_line.ensures c.loop-rest.invariant
