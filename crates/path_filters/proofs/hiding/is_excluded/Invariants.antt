use Rattle.std.proofs.Common.{◌≡◌, ◌&&◌, ◌||◌, drop, not}
use Rattle.path_filters.specs.Filters.{is_excluded, is_matched}
use Rattle.path_filters.proofs.hiding.is_excluded.Given as goal

abbrev pub invariant-loop-filter : goal.invariant-loop-filter
invariant-loop-filter l = is_excluded (drop l.filter-index l.filters) l.path || (l.excluded && not (is_matched (drop l.filter-index l.filters) l.path)) ≡ is_excluded l.filters l.path
