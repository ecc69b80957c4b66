use Rattle.scattered_losses.proofs.TakingTurns.{quiet_on_disk, quiet_then, turns_by_moments, turns_like_a_stop, turns_on, turns_then}
use Rattle.scattered_losses.proofs.turns.directories_that_take_turns_are_left_as_one.Goals as goal

pub returns-clause-stop : goal.returns-clause-stop
returns-clause-stop c = turns_like_a_stop

pub returns-clause-alone : goal.returns-clause-alone
returns-clause-alone c = turns_by_moments

pub returns-clause-behind : goal.returns-clause-behind
returns-clause-behind c = turns_then

pub returns-clause-beside : goal.returns-clause-beside
returns-clause-beside c = turns_on

pub returns-clause-on_disk : goal.returns-clause-on_disk
returns-clause-on_disk c = λ area old new disk. quiet_on_disk area old new disk

pub returns-clause-quiet : goal.returns-clause-quiet
returns-clause-quiet c = quiet_then
