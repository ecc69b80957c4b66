use Rattle.std.proofs.Common.{◌≡◌, ◌++◌, take}
use Rattle.command_line.specs.Triggering.{touched_of}
use Rattle.command_line.proofs.triggering.add_touched_of.Given as goal

abbrev pub invariant-loop-unit : goal.invariant-loop-unit
invariant-loop-unit l = l.touches.items ≡ l.fn.touches.items ++ touched_of (take l.unit-index l.units)
