use Rattle.trigger_turns.proofs.Steps.{turns_none}
use Rattle.command_line.proofs.triggering.process.Goals as goal

pub returns-in-Some-clause-watched : goal.returns-in-Some-clause-watched
returns-in-Some-clause-watched g c = turns_none _ _ _ c.idle.ensures.units
