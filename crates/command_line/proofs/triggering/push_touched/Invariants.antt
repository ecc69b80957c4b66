use Rattle.std.proofs.Common.{◌≡◌, ◌++◌, map, take}
use Rattle.command_line.proofs.triggering.push_touched.Given as goal

abbrev pub invariant-loop-one : goal.invariant-loop-one
invariant-loop-one l = l.names.items ≡ l.fn.names.items ++ map (λ t. t.«package») (take l.one-index l.touched)
