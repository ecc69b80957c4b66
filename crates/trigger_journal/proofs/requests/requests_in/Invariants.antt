use Rattle.std.proofs.Common.{◌≡◌, ◌++◌, length}
use Rattle.trigger_journal.specs.Requests.{requests_in}
use Rattle.trigger_journal.proofs.requests.requests_in.Given as goal

abbrev pub invariant-loop-rest : goal.invariant-loop-rest
invariant-loop-rest l = l.requests.items ++ requests_in l.rest ≡ requests_in l.text

abbrev pub decreases-loop-rest : goal.decreases-loop-rest
decreases-loop-rest l = length l.rest
