use Rattle.std.proofs.Common.{◌≡◌, ◌++◌, take}
use Rattle.std.specs.List.{flat_map}
use Rattle.command_line.specs.Printing.{units_of_round}
use Rattle.command_line.specs.Triggering.{touched_of}
use Rattle.command_line.proofs.unpacking.add_touched_of_rounds.Given as goal

abbrev pub invariant-loop-came : goal.invariant-loop-came
invariant-loop-came l = l.touches.items ≡ l.fn.touches.items ++ touched_of (flat_map units_of_round (take l.came-index l.rounds))
