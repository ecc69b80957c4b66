use Rattle.trigger_turns.proofs.Steps.{turns_none}
use Rattle.command_line.proofs.triggering.take_up.Goals as goal

pub returns-in-Err-clause-watched : goal.returns-in-Err-clause-watched
returns-in-Err-clause-watched g c = turns_none _ _ _ c.unnoted.ensures.units
