use Rattle.std.proofs.Common.{ℕ, List, subst}
use Rattle.configure_run.specs.LeftOver.{AddSomeLeftOver}
use Rattle.configure_run.proofs.LeftLaws.{refused_some_left}
use Rattle.configure_run.proofs.left_over.refuse_left.Goals as goal

pub returns-clause-err : goal.returns-clause-err
returns-clause-err g c =
    refused_some_left c.args.queue.now c.in_ok-numbers.numbers c.args.units.now.items c.refuse_numbers.new.units.items c.in_ok-numbers.ensures
    (subst (λ (l : List ℕ). AddSomeLeftOver c.args.queue.now l c.args.units.now.items c.refuse_numbers.new.units.items) c.as_slice.ensures c.in-Err.ensures.err)
