use Rattle.std.proofs.Common.{◌≡◌, ℕ, ◌<◌, Contains}
use Rattle.host_core.specs.Paths.{Path}
use Rattle.file_lists.specs.Index.{row_for, spot_of, StandsAt}
use Rattle.file_lists.proofs.index.Index.of_lists.Given as goal

abbrev pub invariant-loop-slot : goal.invariant-loop-slot
invariant-loop-slot l = record {
  aliases : l.index.aliases ≡ l.aliases;
  entered : (s number : ℕ) (path : Path) → s < l.slot → StandsAt l.lists s number path → Contains (row_for l.index path) (spot_of s number);
}
