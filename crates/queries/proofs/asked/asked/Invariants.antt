use Rattle.std.proofs.Common.{◌≡◌, take, map}
use Rattle.std.specs.Prelude.{filter}
use Rattle.queries.specs.Asked.{is_asked}
use Rattle.queries.proofs.asked.asked.Given as goal

abbrev pub invariant-loop-entry : goal.invariant-loop-entry
invariant-loop-entry l = map (λ r. r.now) l.entries.items ≡ filter (λ r. is_asked l.patterns r.name) (map (λ r. r.now) (take l.entry-index l.entry-items))
