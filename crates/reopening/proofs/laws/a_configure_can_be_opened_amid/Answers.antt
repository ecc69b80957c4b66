use Rattle.reopening.proofs.Standings.{finds_sound}
use Rattle.reopening.proofs.Turns.{configure_ends}
use Rattle.reopening.proofs.laws.a_configure_can_be_opened_amid.Goals as goal

pub returns : goal.returns
returns c = λ names policy us last before s t finds has. configure_ends policy names us last before s t has (finds_sound before s finds)
