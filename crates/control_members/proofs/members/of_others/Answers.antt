use Rattle.std.proofs.Common.{◌∙◌, sym}
use Rattle.control_members.specs.Names.{is_script_name}
use Rattle.control_members.proofs.Lookup.{other_passed, other_added}
use Rattle.control_members.proofs.members.of_others.Goals as goal

pub loop-member-preserved-then-is_script_name : goal.loop-member-preserved-then-is_script_name
loop-member-preserved-then-is_script_name c =
    other_passed c.loop-member.members c.loop-member.yielded c.in-Some.member is_script_name (sym c.is_script_name.ensures ∙ c.if-is_script_name.true) c.loop-member.invariant

pub loop-member-preserved : goal.loop-member-preserved
loop-member-preserved c =
    other_added c.loop-member.members c.add.new.self c.loop-member.yielded c.in-Some.member is_script_name (sym c.is_script_name.ensures ∙ c.if-is_script_name.false) c.loop-member.invariant c.in_ok-add.ensures.ok
