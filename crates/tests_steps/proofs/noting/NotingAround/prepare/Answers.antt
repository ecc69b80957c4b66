use Rattle.tests_steps.proofs.Nowhere.{nowhere_apart}
use Rattle.tests_steps.proofs.noting.NotingAround.prepare.Goals as goal

pub returns-clause-apart : goal.returns-clause-apart
returns-clause-apart g c = nowhere_apart c.write_note.result _ _ c.write_note.ensures.any_moment
