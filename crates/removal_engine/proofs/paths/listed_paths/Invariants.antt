use Rattle.std.proofs.Common.{◌≡◌, take}
use Rattle.std.specs.List.{AllByRecursion}
use Rattle.file_lists.specs.Owners.{IsListable}
use Rattle.removal_engine.specs.Records.{entry_paths}
use Rattle.removal_engine.proofs.paths.listed_paths.Given as goal

abbrev pub invariant-loop-entry : goal.invariant-loop-entry
invariant-loop-entry l = record {
  paths : l.paths.items ≡ entry_paths (take l.entry-index l.entries);
  listable : AllByRecursion IsListable l.paths.items;
}
