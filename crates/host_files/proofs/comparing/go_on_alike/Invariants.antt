use Rattle.std.proofs.Common.{◌≡◌, ◌+◌, ℕ, List, length}
use Rattle.std.specs.Io.KnownBytes.{Consumes}
use Rattle.host_files.proofs.comparing.go_on_alike.Given as goal

-- both gave the same bytes so far
abbrev pub invariant-loop-left : goal.invariant-loop-left
invariant-loop-left g l = (done : List ℕ) × (length done + l.left ≡ l.count) × Consumes (g.R.Read.remaining l.initial.one) (g.R.Read.remaining l.one) done × Consumes (g.S.Read.remaining l.initial.other) (g.S.Read.remaining l.other) done

abbrev pub decreases-loop-left : goal.decreases-loop-left
decreases-loop-left g l = l.left
