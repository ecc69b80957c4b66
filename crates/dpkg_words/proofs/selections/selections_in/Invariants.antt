use Rattle.std.proofs.Common.{◌≡◌, map, take}
use Rattle.dpkg_words.specs.Selections.{selections_in}
use Rattle.dpkg_words.proofs.selections.selections_in.Given as goal

abbrev pub invariant-loop-line : goal.invariant-loop-line
invariant-loop-line l = l.selections ≡ selections_in (map (λ t. t.now) (take l.line-index l.lines))
