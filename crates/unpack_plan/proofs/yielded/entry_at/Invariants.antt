use Rattle.std.proofs.Common.{◌≡◌, drop}
use Rattle.unpack_plan.specs.Yielded.{entry_at}
use Rattle.unpack_plan.proofs.yielded.entry_at.Given as goal

abbrev pub invariant-loop-entry : goal.invariant-loop-entry
invariant-loop-entry l = record { rest : entry_at l.diversions.ways l.name l.at l.entries ≡ entry_at l.diversions.ways l.name l.at (drop l.entry-index l.entries) }
