use Rattle.reopening.proofs.Standings.{finds_sound}
use Rattle.reopening.proofs.Turns.{removal_ends}
use Rattle.reopening.proofs.laws.a_removal_can_be_opened_amid.Goals as goal

pub returns : goal.returns
returns c = λ names extents us last before s t finds has. removal_ends extents names us last before s t has (finds_sound before s finds)
