use Rattle.std.proofs.Common.{◌≡◌, ◌++◌, map}
use Rattle.unpack_plan.specs.Members.{named_member, named_other}
use Rattle.unpack_plan.proofs.members.other_members.Given as goal

abbrev pub invariant-loop-other : goal.invariant-loop-other
invariant-loop-other l = record {
  named : map named_member l.members.items ≡ map named_other l.yielded;
  left : l.fn.others.items ≡ l.yielded ++ l.other-iterator.rest.items;
}
