use Rattle.std.proofs.Common.{ℕ, ◌<◌, Contains}
use Rattle.host_core.specs.Paths.{Path}
use Rattle.file_lists.specs.Index.{row_for, spot_of, IsNumbered, KeepsRows}
use Rattle.file_lists.proofs.index.Index.enter_all.Given as goal

abbrev pub invariant-loop-number : goal.invariant-loop-number
invariant-loop-number l = record {
  kept : KeepsRows l.fn.self l.self;
  there : (number : ℕ) (path : Path) → number < l.number → IsNumbered l.paths number path → Contains (row_for l.self path) (spot_of l.slot number);
}
