use Rattle.std.proofs.Common.{◌≡◌, take}
use Rattle.std.specs.List.{AllByRecursion}
use Rattle.file_lists.specs.Owners.{IsListable}
use Rattle.package_tree.specs.ShipMap.{paths_of}
use Rattle.unpack_plan.proofs.lists.shipped_paths.Given as goal

abbrev pub invariant-loop-file : goal.invariant-loop-file
invariant-loop-file l = record {
  paths : l.paths.items ≡ paths_of (take l.file-index l.files);
  listable : AllByRecursion IsListable l.paths.items;
}
