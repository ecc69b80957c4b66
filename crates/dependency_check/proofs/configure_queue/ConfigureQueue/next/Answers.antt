use Rattle.std.proofs.Common.{subst}
use Rattle.dependency_sets.specs.Sets.{has}
use Rattle.dependency_check.specs.Waiting.{Waiting, IsNextOfConfigurable}
use Rattle.dependency_check.proofs.WaitingLaws.{next_configurable}
use Rattle.dependency_check.proofs.configure_queue.ConfigureQueue.next.Goals as goal

pub returns : goal.returns
returns c =
    let s = c.self.inside in
    subst (λ (q : Waiting). IsNextOfConfigurable q (has c.args.silent.now) c.in_ok-next.next) c.self.view_is
    (next_configurable s.packages s.configuring.clauses c.clauses-clauses.result.now s.configuring.installed c.supply-supply.result.now (has s.configuring.waiting) (has c.members-members.result.now) (has c.args.silent.now) c.in_ok-next.next c.self.invariant c.clauses-clauses.ensures c.supply-supply.ensures c.members-members.ensures c.in_ok-next.ensures)
