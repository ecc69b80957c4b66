use Rattle.std.proofs.Common.{◌≡◌, drop}
use Rattle.std.specs.List.{list_any}
use Rattle.name_patterns.specs.Patterns.{matches}
use Rattle.queries.proofs.asked.matches_any.Given as goal

abbrev pub invariant-loop-pattern : goal.invariant-loop-pattern
invariant-loop-pattern l = list_any (λ pattern. matches pattern l.name) (drop l.pattern-index l.patterns) ≡ list_any (λ pattern. matches pattern l.name) l.patterns
