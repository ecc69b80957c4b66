use Rattle.std.proofs.Common.{◌≡◌, map, take, true}
use Rattle.std.specs.Prelude.{is_some}
use Rattle.std.specs.List.{list_all}
use Rattle.command_words.specs.Rehearsals.{failure_in}
use Rattle.command_words.proofs.rehearsal.are_failures.Given as goal

abbrev pub invariant-loop-text : goal.invariant-loop-text
invariant-loop-text l = list_all (λ text. is_some (failure_in text)) (map (λ t. t.now) (take l.text-index l.texts)) ≡ true
