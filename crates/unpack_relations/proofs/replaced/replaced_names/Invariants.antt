use Rattle.std.proofs.Common.{◌≡◌, map, take}
use Rattle.std.specs.Prelude.{filter}
use Rattle.unpack_relations.specs.Beside.{is_replaced}
use Rattle.unpack_relations.proofs.replaced.replaced_names.Given as goal

abbrev pub invariant-loop-other : goal.invariant-loop-other
invariant-loop-other l = l.names ≡ map (λ p. p.name) (filter (is_replaced l.incoming) (take l.other-index l.packages))
