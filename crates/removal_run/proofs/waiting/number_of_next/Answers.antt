use Rattle.std.proofs.Common.{inl, sym, ◌∙◌}
use Rattle.std.proofs.lemmas.Bool.{true≢false}
use Rattle.removal_run.proofs.Following.{next_in_turn, next_nothing, out_of_turn}
use Rattle.removal_run.proofs.waiting.number_of_next.Goals as goal

pub returns-in-Some : goal.returns-in-Some
returns-in-Some c = inl (next_in_turn c.args.queue.now c.members-members.result.now c.in_ok-number.field-0 c.members-members.ensures c.in_ok-number.ensures c.in-Some.number c.in-Some.is)

pub returns-then-ignore_depends : goal.returns-then-ignore_depends
returns-then-ignore_depends c =
    out_of_turn c.args.ignore_depends c.args.queue.now c.in_ok-first-in-None.first c.if-ignore_depends.true
    (next_nothing c.args.queue.now c.members-members.result.now c.in_ok-number.field-0 c.members-members.ensures c.in_ok-number.ensures c.in-None.is) c.in_ok-first-in-None.ensures

pub returns-else-ignore_depends : goal.returns-else-ignore_depends
returns-else-ignore_depends c = record {
  none = next_nothing c.args.queue.now c.members-members.result.now c.in_ok-number.field-0 c.members-members.ensures c.in_ok-number.ensures c.in-None.is;
  ignored = λ so. absurd (true≢false (sym so ∙ c.if-ignore_depends.false));
}
