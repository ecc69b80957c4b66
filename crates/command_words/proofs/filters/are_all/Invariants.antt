use Rattle.std.proofs.Common.{◌≡◌, map, take, true}
use Rattle.std.specs.List.{list_all}
use Rattle.name_patterns.specs.Patterns.{is_readable}
use Rattle.command_words.proofs.filters.are_all.Given as goal

abbrev pub invariant-loop-text : goal.invariant-loop-text
invariant-loop-text l = list_all is_readable (map (λ t. t.now) (take l.text-index l.texts)) ≡ true
