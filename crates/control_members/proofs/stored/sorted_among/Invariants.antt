use Rattle.std.proofs.Common.{◌≡◌, List, ℕ, take}
use Rattle.std.specs.BTreeSet.{contains_text}
use Rattle.control_members.proofs.Drawn.{entered}
use Rattle.control_members.proofs.stored.sorted_among.Given as goal

abbrev pub invariant-loop-entry : goal.invariant-loop-entry
invariant-loop-entry l = (name : List ℕ) → contains_text l.set name ≡ entered l.owner (take l.entry-index l.entries) name
