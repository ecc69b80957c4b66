use Rattle.std.proofs.Common.{◌≡◌, ◌++◌, take, drop}
use Rattle.host_core.specs.Paths.{Path}
use Rattle.status_records.specs.ConffilePaths.{placed_by}
use Rattle.configure_engine.proofs.waiting.index_of.Given as goal

abbrev pub invariant-loop-i : goal.invariant-loop-i
invariant-loop-i l = placed_by (λ (q : Path). q) l.path l.paths ≡ take l.i l.paths ++ placed_by (λ (q : Path). q) l.path (drop l.i l.paths)
