use Rattle.std.proofs.Common.{◌≡◌, map, take}
use Rattle.unpack_relations.specs.Beside.{name_at}
use Rattle.unpack_relations.proofs.names.names_at.Given as goal

abbrev pub invariant-loop-number : goal.invariant-loop-number
invariant-loop-number l = l.names ≡ map (name_at l.packages) (take l.number-index l.numbers)
