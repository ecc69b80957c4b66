use Rattle.std.proofs.Common.{◌≡◌, ◌++◌, map, take}
use Rattle.command_line.specs.Triggering.{touch_of}
use Rattle.command_line.proofs.triggering.add_touches.Given as goal

abbrev pub invariant-loop-one : goal.invariant-loop-one
invariant-loop-one l = l.touches.items ≡ l.fn.touches.items ++ map touch_of (take l.one-index l.touched)
