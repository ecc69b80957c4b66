use Rattle.std.proofs.Common.{◌≡◌, length, []}
use Rattle.std.specs.BTreeSet.{contains_text}
use Rattle.std.specs.List.{AllByRecursion}
use Rattle.file_lists.specs.Owners.{names_of}
use Rattle.file_lists.proofs.Increasing.{IsDrawn}
use Rattle.file_lists.proofs.table.Table.of_names.Given as goal

abbrev pub invariant-loop-name : goal.invariant-loop-name
invariant-loop-name l = record {
  drawn : IsDrawn (contains_text l.initial.set) (contains_text l.set) (names_of l.lists.items);
  empty : AllByRecursion (λ p. p.paths ≡ []) l.lists.items;
}

abbrev pub decreases-loop-name : goal.decreases-loop-name
decreases-loop-name l = length l.set.keys
