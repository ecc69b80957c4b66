use Rattle.std.proofs.Common.{◌≡◌, map, take, true}
use Rattle.std.specs.List.{list_all}
use Rattle.dpkg_words.specs.Selections.{is_readable}
use Rattle.dpkg_words.proofs.selections.bad_line.Given as goal

abbrev pub invariant-loop-line : goal.invariant-loop-line
invariant-loop-line l = (l.number ≡ l.line-index) × (list_all is_readable (map (λ t. t.now) (take l.line-index l.lines)) ≡ true)
