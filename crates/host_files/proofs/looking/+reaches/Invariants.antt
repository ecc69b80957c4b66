use Rattle.std.proofs.Common.{length}
use Rattle.host_files.proofs.looking.+reaches.Given as goal

abbrev pub decreases-reaches : goal.decreases-reaches
decreases-reaches l = length l.path.now
