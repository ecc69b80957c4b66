use Rattle.std.proofs.Common.{sym, ◌∙◌}
use Rattle.install_order.specs.Taking.{IsNextBy}
use Rattle.dependency_sets.specs.Sets.{has}
use Rattle.install_order.proofs.TakingLaws.{members_are, round_of_members, round_of_left}
use Rattle.install_order.proofs.taking.next_round.Goals as goal

pub returns-then-has_one : goal.returns-then-has_one
returns-then-has_one c = round_of_members (IsNextBy c.args.before.now c.args.beside.now (has c.args.earlier.now) (has c.args.left.now)) c.in_ok-members.members.items c.as_slice-set.result.now (has c.args.left.now) c.in_ok-round.round c.as_slice-set.ensures.value
    (members_are c.args.before.now c.args.beside.now (has c.args.earlier.now) (has c.args.left.now) c.in_ok-waiting.waiting.items c.as_slice.result.now c.in_ok-members.members.items c.as_slice.ensures.value c.in_ok-waiting.ensures c.in_ok-members.ensures)
    (sym c.has_one.ensures ∙ c.if-has_one.true)
    c.in_ok-round.ensures

pub returns : goal.returns
returns c = round_of_left (IsNextBy c.args.before.now c.args.beside.now (has c.args.earlier.now) (has c.args.left.now)) c.in_ok-members.members.items c.as_slice-set.result.now c.args.left.now c.in_ok-round-2.round c.as_slice-set.ensures.value
    (members_are c.args.before.now c.args.beside.now (has c.args.earlier.now) (has c.args.left.now) c.in_ok-waiting.waiting.items c.as_slice.result.now c.in_ok-members.members.items c.as_slice.ensures.value c.in_ok-waiting.ensures c.in_ok-members.ensures)
    (sym c.has_one.ensures ∙ c.if-has_one.false)
    c.requires
    c.in_ok-round-2.ensures
