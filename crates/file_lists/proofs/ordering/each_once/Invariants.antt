use Rattle.std.proofs.Common.{length}
use Rattle.std.specs.BTreeSet.{contains_text}
use Rattle.file_lists.proofs.Increasing.{IsDrawn}
use Rattle.file_lists.proofs.ordering.each_once.Given as goal

abbrev pub invariant-loop-text : goal.invariant-loop-text
invariant-loop-text l = IsDrawn (contains_text l.initial.set) (contains_text l.set) l.items.items

abbrev pub decreases-loop-text : goal.decreases-loop-text
decreases-loop-text l = length l.set.keys
