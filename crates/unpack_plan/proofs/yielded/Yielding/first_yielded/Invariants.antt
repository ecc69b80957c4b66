use Rattle.std.proofs.Common.{◌≡◌, drop}
use Rattle.unpack_plan.specs.Yielded.{first_yielded}
use Rattle.unpack_plan.proofs.yielded.Yielding.first_yielded.Given as goal

abbrev pub invariant-loop-record : goal.invariant-loop-record
invariant-loop-record l = record { rest : first_yielded l.self l.at l.self.records ≡ first_yielded l.self l.at (drop l.record-index l.self.records) }
