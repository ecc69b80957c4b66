use Rattle.std.proofs.Common.{◌≡◌, drop}
use Rattle.queries.specs.Asked.{is_found}
use Rattle.queries.proofs.asked.is_found.Given as goal

abbrev pub invariant-loop-entry : goal.invariant-loop-entry
invariant-loop-entry l = is_found (drop l.entry-index l.records) l.pattern ≡ is_found l.records l.pattern
