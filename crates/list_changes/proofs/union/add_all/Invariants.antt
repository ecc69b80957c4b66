use Rattle.std.proofs.Common.{◌≡◌, ◌++◌, take}
use Rattle.list_changes.proofs.union.add_all.Given as goal

abbrev pub invariant-loop-path : goal.invariant-loop-path
invariant-loop-path l = l.paths-inside.items.items ≡ l.fn.paths ++ take l.path-index l.more
