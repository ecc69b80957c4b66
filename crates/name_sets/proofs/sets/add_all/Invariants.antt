use Rattle.std.proofs.Common.{◌≡◌, ◌||◌, List, ℕ, take}
use Rattle.std.specs.BTreeSet.{contains_text}
use Rattle.name_sets.specs.Names.{is_among}
use Rattle.name_sets.proofs.sets.add_all.Given as goal

abbrev pub invariant-loop-name : goal.invariant-loop-name
invariant-loop-name l = (q : List ℕ) → contains_text l.set q ≡ contains_text l.fn.set q || is_among (take l.name-index l.names) q
