use Rattle.std.proofs.Common.{◌≡◌, take}
use Rattle.file_lists.specs.Writing.{left_paths}
use Rattle.file_lists.proofs.taking.left_paths.Given as goal

abbrev pub invariant-loop-path : goal.invariant-loop-path
invariant-loop-path l = l.left ≡ left_paths l.diversions.ways l.places l.name (take l.path-index l.paths)
