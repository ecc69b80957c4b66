use Rattle.std.proofs.Common.{◌≡◌, map, take, true}
use Rattle.std.specs.List.{list_all}
use Rattle.command_words.specs.Frontends.{is_descriptor}
use Rattle.command_words.proofs.frontends.are_all.Given as goal

abbrev pub invariant-loop-text : goal.invariant-loop-text
invariant-loop-text l = list_all is_descriptor (map (λ t. t.now) (take l.text-index l.texts)) ≡ true
