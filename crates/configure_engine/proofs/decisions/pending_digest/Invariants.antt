use Rattle.std.proofs.Common.{◌≡◌, drop}
use Rattle.configure_engine.specs.Waiting.{pending_digest}
use Rattle.configure_engine.proofs.decisions.pending_digest.Given as goal

abbrev pub invariant-loop-shipped : goal.invariant-loop-shipped
invariant-loop-shipped l = pending_digest l.pending l.path ≡ pending_digest (drop l.shipped-index l.pending) l.path
