use Rattle.std.proofs.Common.{◌≡◌, filter, take}
use Rattle.configure_engine.specs.Settled.{stays}
use Rattle.configure_engine.proofs.settled.staying_entries.Given as goal

abbrev pub invariant-loop-conffile : goal.invariant-loop-conffile
invariant-loop-conffile l = l.staying ≡ filter (stays l.entry.pending) (take l.conffile-index l.entry.conffiles)
