use Rattle.std.proofs.Common.{length}
use Rattle.host_files.proofs.way.+open_by_way.Given as goal

abbrev pub decreases-open_by_way : goal.decreases-open_by_way
decreases-open_by_way l = length l.place.now
