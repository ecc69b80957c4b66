use Rattle.std.proofs.Common.{◌≡◌, take}
use Rattle.file_lists.specs.Beside.{lists_before, lists_behind, path_count}
use Rattle.file_lists.proofs.renewing.counts_beside.Given as goal

abbrev pub invariant-loop-list : goal.invariant-loop-list
invariant-loop-list l = record {
  before : l.before ≡ path_count (lists_before l.name (take l.list-index l.lists));
  behind : l.behind ≡ path_count (lists_behind l.name (take l.list-index l.lists));
}
