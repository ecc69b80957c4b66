use Rattle.std.proofs.Common.{◌≡◌, map, take}
use Rattle.command_words.specs.Rehearsals.{failures_in}
use Rattle.command_words.proofs.rehearsal.failures_in.Given as goal

abbrev pub invariant-loop-text : goal.invariant-loop-text
invariant-loop-text l = l.failures.items ≡ failures_in (map (λ t. t.now) (take l.text-index l.texts))
