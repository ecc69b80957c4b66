use Rattle.std.proofs.Common.{◌≡◌, ◌++◌}
use Rattle.host_core.specs.Paths.{Path}
use Rattle.status_records.specs.ConffilePaths.{in_path_order}
use Rattle.configure_engine.proofs.waiting.in_path_order.Given as goal

abbrev pub invariant-loop-path : goal.invariant-loop-path
invariant-loop-path l = (l.ordered.items ≡ in_path_order (λ (q : Path). q) l.yielded) × (l.fn.paths.items ≡ l.yielded ++ l.path-iterator.rest.items)
