use Rattle.std.proofs.Common.{◌≡◌, List, ℕ, None, cond}
use Rattle.control_members.specs.Names.{is_script_name}
use Rattle.control_members.specs.Members.{member_of}
use Rattle.control_members.proofs.members.of_others.Given as goal

abbrev pub invariant-loop-member : goal.invariant-loop-member
invariant-loop-member l = (name : List ℕ) → member_of l.members name ≡ cond (is_script_name name) None (member_of l.yielded name)
