use Rattle.std.proofs.Common.{length}
use Rattle.command_line.proofs.unpacking.+last_of_rounds.Given as goal

abbrev pub decreases-last_of_rounds : goal.decreases-last_of_rounds
decreases-last_of_rounds l = length l.rounds.now
