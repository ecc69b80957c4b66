use Rattle.std.proofs.Common.{◌≡◌, map}
use Rattle.diversions.specs.Entries.{without}
use Rattle.diversions.specs.Writing.{table_text}
use Rattle.diversions.proofs.writing.text_without.Given as goal

abbrev pub invariant-loop-entry : goal.invariant-loop-entry
invariant-loop-entry l = l.text.items ≡ table_text (without l.path (map (λ b. b.now) l.yielded))
