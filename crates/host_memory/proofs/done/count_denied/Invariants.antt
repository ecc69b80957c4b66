use Rattle.std.proofs.Common.{◌≡◌, map, take}
use Rattle.host_core.specs.Events.{denials_of}
use Rattle.host_memory.specs.Doings.{event_of}
use Rattle.host_memory.proofs.done.count_denied.Given as goal

abbrev pub invariant-loop-done : goal.invariant-loop-done
invariant-loop-done l = l.count ≡ denials_of (map event_of (take l.done-index l.events))
