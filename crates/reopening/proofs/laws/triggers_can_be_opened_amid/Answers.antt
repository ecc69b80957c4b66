use Rattle.reopening.proofs.Standings.{finds_sound}
use Rattle.reopening.proofs.Triggers.{triggers_end}
use Rattle.reopening.proofs.laws.triggers_can_be_opened_amid.Goals as goal

pub returns : goal.returns
returns c = λ names us last before s t finds has. triggers_end names us last before s t has (finds_sound before s finds)
