use Rattle.std.proofs.Common.{◌≡◌, take}
use Rattle.trigger_watch.specs.Hits.{names_hit}
use Rattle.trigger_watch.proofs.hits.names_hit.Given as goal

abbrev pub invariant-loop-i : goal.invariant-loop-i
invariant-loop-i l = l.names ≡ names_hit l.paths l.activated (take l.i l.interests)
