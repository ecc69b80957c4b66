use Rattle.std.proofs.Common.{◌≡◌, take, map}
use Rattle.std.specs.Prelude.{filter}
use Rattle.displaced_packages.specs.Losing.{is_spared, losing_of}
use Rattle.displaced_packages.proofs.losing.losing_among.Given as goal

abbrev pub invariant-loop-name : goal.invariant-loop-name
invariant-loop-name l = l.losing.items ≡ map (losing_of l.lists.lists) (filter (is_spared l.conflicting) (take l.name-index l.replaced))
