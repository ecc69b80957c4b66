use Rattle.std.proofs.Common.{◌≡◌, drop}
use Rattle.name_patterns.specs.Patterns.{is_readable, is_readable_behind}
use Rattle.name_patterns.proofs.patterns.is_readable.Given as goal

abbrev pub invariant-loop-sign : goal.invariant-loop-sign
invariant-loop-sign l = is_readable_behind l.quoted (drop l.sign-index l.pattern) ≡ is_readable l.pattern
