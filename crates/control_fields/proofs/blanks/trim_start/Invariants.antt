use Rattle.std.proofs.Common.{◌≡◌, length}
use Rattle.control_fields.specs.Names.{trim_start}
use Rattle.control_fields.proofs.blanks.trim_start.Given as goal

abbrev pub invariant-loop-rest : goal.invariant-loop-rest
invariant-loop-rest l = trim_start l.rest ≡ trim_start l.fn.line

abbrev pub decreases-loop-rest : goal.decreases-loop-rest
decreases-loop-rest l = length l.rest
