use Rattle.std.proofs.Common.{length}
use Rattle.std.specs.BTreeSet.{contains_text}
use Rattle.control_members.proofs.Drawn.{IsDrawn}
use Rattle.dpkg_session.proofs.tellings.names_of_both.Given as goal

abbrev pub invariant-loop-name : goal.invariant-loop-name
invariant-loop-name l = IsDrawn (contains_text l.initial.set) (contains_text l.set) l.names

abbrev pub decreases-loop-name : goal.decreases-loop-name
decreases-loop-name l = length l.set.keys
