use Rattle.std.proofs.Common.{◌≡◌, not, take}
use Rattle.std.specs.BTreeSet.{contains_text}
use Rattle.std.specs.List.{filter, AllByRecursion}
use Rattle.file_lists.specs.Owners.{IsListable}
use Rattle.unpack_plan.specs.Lists.{entry_paths}
use Rattle.unpack_plan.proofs.lists.staying_paths.Given as goal

abbrev pub invariant-loop-entry : goal.invariant-loop-entry
invariant-loop-entry l = record {
  paths : l.paths.items ≡ entry_paths (filter (λ e. not (contains_text l.shipped e.path)) (take l.entry-index l.entries));
  listable : AllByRecursion IsListable l.paths.items;
}
