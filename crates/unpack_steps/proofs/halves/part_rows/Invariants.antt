use Rattle.std.proofs.Common.{◌≡◌, ◌<◌, ◌≤◌, List, [], ◌++◌, length}
use Rattle.unpack_steps.proofs.halves.part_rows.Given as goal

abbrev pub invariant-loop-row : goal.invariant-loop-row
invariant-loop-row l = record {
  left : l.fn.calls.items ≡ l.yielded ++ l.row-iterator.rest.items;
  all : l.before.items ++ l.files.items ≡ l.yielded;
  within : length l.before.items ≤ l.count;
  first : length l.before.items < l.count → l.files.items ≡ [];
}
