use Rattle.std.proofs.Common.{length}
use Rattle.command_line.proofs.answer.+rounds_status.Given as goal

abbrev pub decreases-rounds_status : goal.decreases-rounds_status
decreases-rounds_status l = length l.rounds.now
