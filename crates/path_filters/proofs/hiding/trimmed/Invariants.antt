use Rattle.std.proofs.Common.{◌≡◌, length}
use Rattle.path_filters.specs.Filters.{trimmed}
use Rattle.path_filters.proofs.hiding.trimmed.Given as goal

abbrev pub invariant-loop-rest : goal.invariant-loop-rest
invariant-loop-rest l = trimmed l.rest ≡ trimmed l.fn.text

abbrev pub decreases-loop-rest : goal.decreases-loop-rest
decreases-loop-rest l = length l.rest
