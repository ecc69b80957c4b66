use Rattle.std.proofs.Common.{◌≡◌, map, take}
use Rattle.command_line.specs.Packages.{selection_of}
use Rattle.command_line.proofs.packages.selections_of.Given as goal

abbrev pub invariant-loop-selected : goal.invariant-loop-selected
invariant-loop-selected l = l.selections.items ≡ map selection_of (take l.selected-index l.told)
