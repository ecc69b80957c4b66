use Rattle.std.proofs.Common.{◌≡◌, map, string_bytes}
use Rattle.queries.specs.Places.{diversions_text}
use Rattle.queries.proofs.places.diversions_text.Given as goal

abbrev pub invariant-loop-entry : goal.invariant-loop-entry
invariant-loop-entry l = string_bytes l.lines ≡ diversions_text (map (λ b. b.now) l.yielded)
