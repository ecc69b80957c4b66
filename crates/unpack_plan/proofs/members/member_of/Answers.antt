use Rattle.unpack_plan.proofs.Kept.{other_is_member}
use Rattle.unpack_plan.proofs.members.member_of.Goals as goal

pub invariant_of-result : goal.invariant_of-result
invariant_of-result c = record { named = other_is_member c.args.other.name c.args.other.named; file = c.args.other.file }
