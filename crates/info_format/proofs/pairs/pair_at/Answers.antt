use Rattle.std.proofs.lemmas.Result.{IfOk-weaker}
use Rattle.info_format.proofs.Two.{pair_at_entry}
use Rattle.info_format.proofs.pairs.pair_at.Goals as goal

pub returns-in-Some : goal.returns-in-Some
returns-in-Some c = IfOk-weaker c.pair_of.result _ _ (λ found is. pair_at_entry c.args.owner.now c.args.entry.now c.in-Some.ending.now found c.in-Some.ensures.some is) c.pair_of.ensures
