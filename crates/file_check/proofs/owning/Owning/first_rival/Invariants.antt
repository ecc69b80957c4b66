use Rattle.std.proofs.Common.{◌≡◌, drop}
use Rattle.file_check.specs.Clashes.{first_rival}
use Rattle.file_check.proofs.owning.Owning.first_rival.Given as goal

abbrev pub invariant-loop-owner : goal.invariant-loop-owner
invariant-loop-owner l = record { rest : first_rival l.self l.owners ≡ first_rival l.self (drop l.owner-index l.owners) }
