use Rattle.std.proofs.Common.{◌≡◌, drop}
use Rattle.unpack_plan.specs.Yielded.{counted_entries}
use Rattle.unpack_plan.proofs.yielded.counted_entries.Given as goal

abbrev pub invariant-loop-digest : goal.invariant-loop-digest
invariant-loop-digest l = record { rest : counted_entries l.giving l.fn.recorded l.shipped ≡ counted_entries l.giving l.entries (drop l.digest-index l.shipped) }
