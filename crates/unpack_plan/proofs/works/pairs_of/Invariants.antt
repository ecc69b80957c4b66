use Rattle.std.proofs.Common.{◌≡◌, ◌++◌}
use Rattle.unpack_plan.specs.Planned.{pairs_of}
use Rattle.unpack_plan.proofs.works.pairs_of.Given as goal

abbrev pub invariant-loop-file : goal.invariant-loop-file
invariant-loop-file l = record {
  pairs : l.pairs.items ≡ pairs_of l.yielded;
  left : l.fn.files.items ≡ l.yielded ++ l.file-iterator.rest.items;
}
