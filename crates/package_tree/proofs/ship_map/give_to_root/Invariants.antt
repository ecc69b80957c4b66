use Rattle.std.proofs.Common.{◌≡◌, ◌++◌, take, drop}
use Rattle.package_tree.specs.Owners.{root_files}
use Rattle.package_tree.proofs.ship_map.give_to_root.Given as goal

abbrev pub invariant-loop-file : goal.invariant-loop-file
invariant-loop-file l = l.file-items ≡ root_files (take l.file-index l.fn.files.items) ++ drop l.file-index l.fn.files.items
