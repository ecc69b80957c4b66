use Rattle.unpack_steps.proofs.Begins.{at_begin}
use Rattle.unpack_steps.proofs.laws.rows_begin_before_the_first.Goals as goal

pub returns : goal.returns
returns c = λ s d lists ways places works plan sound opened lists_open begun. at_begin s d lists ways places works plan sound opened lists_open begun
