use Rattle.std.proofs.Common.{◌≡◌, ◌++◌}
use Rattle.configure_engine.specs.Waiting.{going_paths, pending_paths}
use Rattle.configure_engine.proofs.waiting.waiting_paths.Given as goal

abbrev pub invariant-loop-path : goal.invariant-loop-path
invariant-loop-path l = (l.paths.items ≡ pending_paths l.entry ++ l.yielded) × (going_paths l.entry ≡ l.yielded ++ l.path-iterator.rest.items)
