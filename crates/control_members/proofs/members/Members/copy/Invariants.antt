use Rattle.std.proofs.Common.{◌≡◌, take}
use Rattle.control_members.proofs.members.Members.copy.Given as goal

abbrev pub invariant-loop-member : goal.invariant-loop-member
invariant-loop-member l = l.items.items ≡ take l.member-index l.member-items
