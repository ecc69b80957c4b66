use Rattle.std.proofs.Common.{◌≡◌, ◌++◌, take}
use Rattle.trigger_turns.specs.Turns.{names_told}
use Rattle.command_line.proofs.triggering.push_told.Given as goal

abbrev pub invariant-loop-unit : goal.invariant-loop-unit
invariant-loop-unit l = l.names.items ≡ l.fn.names.items ++ names_told (take l.unit-index l.units)
