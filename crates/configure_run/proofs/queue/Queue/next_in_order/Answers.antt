use Rattle.std.proofs.Common.{◌≡◌, subst, sym}
use Rattle.std.specs.Prelude.{IfSome}
use Rattle.dependency_check.specs.Waiting.{Waiting, IsConfigurableNow, IsNextOfConfigurable}
use Rattle.dependency_sets.specs.Sets.{has}
use Rattle.configure_run.proofs.Members.{next_member, none_is_member}
use Rattle.configure_run.proofs.queue.Queue.next_in_order.Goals as goal

pub returns-clause-next : goal.returns-clause-next
returns-clause-next c =
    let same : c.args.self.now ≡ c.self.inside.queue = sym c.self.view_is in
    subst (λ (q : Waiting). IsNextOfConfigurable q (has c.args.silent.now) c.in_ok-next.next) (sym same) c.in_ok-next.ensures

pub returns-clause-member : goal.returns-clause-member
returns-clause-member c =
    let same : c.args.self.now ≡ c.self.inside.queue = sym c.self.view_is in
    subst (λ (q : Waiting). IfSome c.in_ok-next.next (IsConfigurableNow q)) (sym same)
    (next_member c.self.inside.queue (has c.args.silent.now) (has c.members.result.now) c.in_ok-next.next c.members.ensures c.in_ok-next.ensures)

pub returns-clause-none_left : goal.returns-clause-none_left
returns-clause-none_left c none x can =
    let same : c.args.self.now ≡ c.self.inside.queue = sym c.self.view_is in
    none_is_member c.self.inside.queue (has c.args.silent.now) (has c.members.result.now) c.members.ensures
    (subst (λ o. IsNextOfConfigurable c.self.inside.queue (has c.args.silent.now) o) none c.in_ok-next.ensures) x (subst (λ (q : Waiting). IsConfigurableNow q x) same can)
