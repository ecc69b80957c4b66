use Rattle.std.proofs.Common.{◌≡◌, ◌++◌}
use Rattle.removal_run.specs.Refusals.{AreRefused, accepted, refusals}
use Rattle.removal_run.proofs.refusals.sort.Given as goal

abbrev pub invariant-loop-name : goal.invariant-loop-name
invariant-loop-name l = record {
  left : l.fn.names.items ≡ l.yielded ++ l.name-iterator.rest.items;
  refused : AreRefused (refusals l.extents l.database.records l.yielded) l.units.items;
  waiting : l.waiting.items ≡ accepted l.extents l.database.records l.yielded;
}
