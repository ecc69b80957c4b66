use Rattle.std.proofs.Common.{◌≡◌, length}
use Rattle.host_core.specs.Paths.{Path}
use Rattle.diversions.specs.Lines.{lines_in}
use Rattle.verification.specs.Sums.{sum_in}
use Rattle.verification.specs.Tables.{first_of, given}
use Rattle.verification.proofs.sums.Sums.of_text.Given as goal

abbrev pub invariant-loop-rest : goal.invariant-loop-rest
invariant-loop-rest l = (path : Path) → first_of (given l.sums path) (sum_in (lines_in l.rest) path) ≡ sum_in (lines_in l.text) path

abbrev pub decreases-loop-rest : goal.decreases-loop-rest
decreases-loop-rest l = length l.rest
