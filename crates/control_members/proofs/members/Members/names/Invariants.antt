use Rattle.std.proofs.Common.{◌≡◌, take}
use Rattle.control_members.specs.Members.{names_of}
use Rattle.control_members.proofs.members.Members.names.Given as goal

abbrev pub invariant-loop-member : goal.invariant-loop-member
invariant-loop-member l = l.names ≡ names_of (take l.member-index l.member-items)
