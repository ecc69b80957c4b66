use Rattle.std.proofs.Common.{◌≤◌, [], inl, inr, subst, sym}
use Rattle.command_line.specs.Reports.{IsGiven}
use Rattle.command_line.specs.declared.answer.Answer.{Answer}
use Rattle.command_line.proofs.Held.{appends_nothing}
use Rattle.command_line.proofs.Told.{told_bound}
use Rattle.command_line.proofs.telling.give_told.Goals as goal

pub returns-in-Ok-clause-given : goal.returns-in-Ok-clause-given
returns-in-Ok-clause-given g c =
    inl (subst (λ (a : Answer). IsGiven a (g.O.Write.contents c.args.out.now) (g.O.Write.contents c.give.new.out) (g.E.Write.contents c.args.err.now) (g.E.Write.contents c.give.new.err) c.give.result) c.in-Ok.ensures c.give.ensures.given)

pub returns-in-Ok-clause-bound : goal.returns-in-Ok-clause-bound
returns-in-Ok-clause-bound g c = c.give.ensures.bound (subst (λ (a : Answer). a.status ≤ 2) (sym c.in-Ok.ensures) (told_bound c.args.changes))

pub returns-in-Err-clause-given : goal.returns-in-Err-clause-given
returns-in-Err-clause-given g c =
    let held = g.O.Write.contents c.args.out.now in
    inr (c.give_want_of_memory.ensures.given [] held held (appends_nothing held))
