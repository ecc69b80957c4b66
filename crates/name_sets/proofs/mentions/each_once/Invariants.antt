use Rattle.std.proofs.Common.{◌≡◌, ◌++◌, List, ℕ, drop}
use Rattle.std.specs.BTreeSet.{contains_text}
use Rattle.name_sets.specs.Names.{each_once, is_among}
use Rattle.name_sets.proofs.Fresh.{new_of}
use Rattle.name_sets.proofs.mentions.each_once.Given as goal

abbrev pub invariant-loop-name : goal.invariant-loop-name
invariant-loop-name l = (each_once l.names ≡ l.list.items ++ new_of l.list.items (each_once (drop l.name-index l.names))) × ((q : List ℕ) → contains_text l.set q ≡ is_among l.list.items q)
