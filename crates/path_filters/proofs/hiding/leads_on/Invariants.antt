use Rattle.std.proofs.Common.{◌≡◌, drop}
use Rattle.path_filters.specs.Filters.{leads_on}
use Rattle.path_filters.proofs.hiding.leads_on.Given as goal

abbrev pub invariant-loop-filter : goal.invariant-loop-filter
invariant-loop-filter l = leads_on (drop l.filter-index l.filters) l.path ≡ leads_on l.filters l.path
