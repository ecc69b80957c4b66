use Rattle.std.proofs.Common.{◌≡◌, map, take}
use Rattle.unpack_relations.specs.Beside.{dependent_at}
use Rattle.unpack_relations.proofs.names.dependents_at.Given as goal

abbrev pub invariant-loop-dependent : goal.invariant-loop-dependent
invariant-loop-dependent l = l.list.items ≡ map (dependent_at l.packages) (take l.dependent-index l.dependents)
