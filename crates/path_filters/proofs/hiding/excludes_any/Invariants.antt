use Rattle.std.proofs.Common.{◌≡◌, drop, not}
use Rattle.std.specs.List.{list_any}
use Rattle.path_filters.proofs.hiding.excludes_any.Given as goal

abbrev pub invariant-loop-filter : goal.invariant-loop-filter
invariant-loop-filter l = list_any (λ f. not f.includes) (drop l.filter-index l.filters) ≡ list_any (λ f. not f.includes) l.filters
