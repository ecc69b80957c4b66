use Rattle.std.proofs.Common.{subst, List, ℕ, true, false}
use Rattle.install_order.specs.Taking.{AreMarked}
use Rattle.install_order.proofs.TakingLaws.{round_at}
use Rattle.install_order.proofs.taking.Taking.take.Goals as goal

pub returns : goal.returns
returns c =
    let s = c.args.self.now in
    record {
      round = c.in_ok-round.round;
      is_next = round_at c.args.before.now c.args.beside.now s.earlier.items c.as_slice-earlier.result.now s.left.items c.as_slice-left.result.now c.in_ok-round.round c.as_slice-earlier.ensures.value c.as_slice-left.ensures.value c.in_ok-round.ensures;
      is_last = c.in_ok-push.ensures.items;
      in_earlier = subst (λ (l : List ℕ). AreMarked true l s.earlier.items c.mark_all.new.set.items) c.as_slice.ensures c.mark_all.ensures;
      not_left = subst (λ (l : List ℕ). AreMarked false l s.left.items c.mark_all-2.new.set.items) c.as_slice-2.ensures c.mark_all-2.ensures;
    }
