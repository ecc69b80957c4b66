use Rattle.host_core.proofs.Moments.{since_weaker_if}
use Rattle.reopening.proofs.Diverts.{diverting_opens, undiverting_opens}
use Rattle.reopening.proofs.Standings.{finds_sound}
use Rattle.reopening.proofs.laws.a_diversion_can_be_opened_amid.Goals as goal

pub returns-clause-divert : goal.returns-clause-divert
returns-clause-divert c = λ asked before s t path target finds since.
    since_weaker_if _ _ s t (λ h so_far now amid. diverting_opens before asked s.world now (finds_sound before s finds (since.honest h)) path target amid) since

pub returns-clause-undivert : goal.returns-clause-undivert
returns-clause-undivert c = λ asked before s t path finds since.
    since_weaker_if _ _ s t (λ h so_far now amid. undiverting_opens before asked s.world now (finds_sound before s finds (since.honest h)) path amid) since
