use Rattle.std.proofs.Common.{length}
use Rattle.std.specs.Vec.Iter.{into_iter_items}
use Rattle.command_line.proofs.installing.+run_rounds.Given as goal

abbrev pub decreases-run_rounds : goal.decreases-run_rounds
decreases-run_rounds g l = length (into_iter_items l.rounds.now)
