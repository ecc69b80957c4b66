use Rattle.std.proofs.Common.{◌≡◌, ◌≤◌, length, drop, map}
use Rattle.queries.specs.Asked.{by_name}
use Rattle.queries.proofs.records.by_name.Given as goal

abbrev pub invariant-loop-count : goal.invariant-loop-count
invariant-loop-count l = record {
  within : l.count ≤ length l.records;
  ordered : map (λ r. r.now) l.ordered.items ≡ by_name (drop l.count l.records);
}

abbrev pub decreases-loop-count : goal.decreases-loop-count
decreases-loop-count l = l.count
