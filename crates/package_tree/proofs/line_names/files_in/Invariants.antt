use Rattle.std.proofs.Common.{◌≡◌, take}
use Rattle.std.specs.List.{filter}
use Rattle.std.specs.BTreeSet.{contains_text}
use Rattle.package_tree.specs.ShipMap.{paths_of, is_file_in}
use Rattle.package_tree.proofs.line_names.files_in.Given as goal

abbrev pub invariant-loop-file : goal.invariant-loop-file
invariant-loop-file l = l.paths.items ≡ paths_of (filter (is_file_in (contains_text l.names)) (take l.file-index l.files))
