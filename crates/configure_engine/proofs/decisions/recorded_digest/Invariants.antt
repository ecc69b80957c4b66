use Rattle.std.proofs.Common.{◌≡◌, drop}
use Rattle.status_records.specs.Conffiles.{recorded_digest}
use Rattle.configure_engine.proofs.decisions.recorded_digest.Given as goal

abbrev pub invariant-loop-entry : goal.invariant-loop-entry
invariant-loop-entry l = recorded_digest l.entries l.path ≡ recorded_digest (drop l.entry-index l.entries) l.path
