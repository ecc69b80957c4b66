use Rattle.std.proofs.Common.{◌≡◌, take}
use Rattle.file_lists.specs.Owners.{paths_of}
use Rattle.unpack_plan.proofs.lists.listed_paths.Given as goal

abbrev pub invariant-loop-path : goal.invariant-loop-path
invariant-loop-path l = l.items.items ≡ take l.path-index (paths_of l.lists.lists l.name)
