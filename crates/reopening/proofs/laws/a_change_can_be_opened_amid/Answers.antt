use Rattle.reopening.proofs.Changes.{changes_end}
use Rattle.reopening.proofs.Standings.{finds_sound}
use Rattle.reopening.proofs.laws.a_change_can_be_opened_amid.Goals as goal

pub returns : goal.returns
returns c = λ changes us last before s t finds has. changes_end changes us last before s t has (finds_sound before s finds)
