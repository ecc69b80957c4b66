use Rattle.std.proofs.Common.{length}
use Rattle.host_memory.proofs.unsynced.+is_unsynced.Given as goal

abbrev pub decreases-is_unsynced : goal.decreases-is_unsynced
decreases-is_unsynced l = length l.events.now
