use Rattle.std.proofs.Common.{◌≡◌, List, Option, Some, None, refl, subst, sym, ap}
use Rattle.unit_reports.specs.Held.{held_by}
use Rattle.trigger_turns.specs.Settled.{HasProcessedPending}
use Rattle.trigger_turns.proofs.Settled.{broken_pending, told_behind_turns}
use Rattle.trigger_turns.proofs.settling.process_pending.Goals as goal

pub returns-in-None-clause-processed : goal.returns-in-None-clause-processed
returns-in-None-clause-processed g c = λ order is. HasProcessedPending.settled c.process_in_turns-units.result _ _ (c.process_in_turns-units.ensures.turned order is) c.in-None.is c.settle.ensures.settled

pub returns-in-None-clause-watched : goal.returns-in-None-clause-watched
returns-in-None-clause-watched g c = told_behind_turns _ _ _ _ _ _ c.process_in_turns-units.ensures.watched c.settle.ensures.watched

pub returns-in-Some-clause-processed : goal.returns-in-Some-clause-processed
returns-in-Some-clause-processed g c = λ order is. broken_pending _ _ _ c.in-Some.unit _ _ _ _ c.in-Some.is (c.process_in_turns-units.ensures.turned order is)
