use Rattle.std.proofs.Common.{◌≡◌, length}
use Rattle.diversions.specs.Lines.{lines_in}
use Rattle.stat_overrides.specs.Owners.{number_in}
use Rattle.stat_overrides.proofs.owners.number_in.Given as goal

abbrev pub invariant-loop-rest : goal.invariant-loop-rest
invariant-loop-rest l = number_in (lines_in l.rest) l.name ≡ number_in (lines_in l.text) l.name

abbrev pub decreases-loop-rest : goal.decreases-loop-rest
decreases-loop-rest l = length l.rest
