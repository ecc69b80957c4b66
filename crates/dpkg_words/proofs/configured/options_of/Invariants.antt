use Rattle.std.proofs.Common.{◌≡◌, map, take}
use Rattle.dpkg_words.specs.Configured.{options_of}
use Rattle.dpkg_words.proofs.configured.options_of.Given as goal

abbrev pub invariant-loop-line : goal.invariant-loop-line
invariant-loop-line l = l.options ≡ options_of (map (λ t. t.now) (take l.line-index l.lines))
