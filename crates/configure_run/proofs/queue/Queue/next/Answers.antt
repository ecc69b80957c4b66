use Rattle.std.proofs.Common.{None, inl, subst, sym, ◌∙◌}
use Rattle.std.proofs.lemmas.Bool.{true≢false}
use Rattle.std.specs.Prelude.{IfSome}
use Rattle.dependency_check.specs.Waiting.{IsConfigurableNow, IsNextOfConfigurable}
use Rattle.dependency_sets.specs.Sets.{has}
use Rattle.configure_run.proofs.Members.{out_of_turn}
use Rattle.configure_run.proofs.queue.Queue.next.Goals as goal

pub returns-in-Some-clause-next : goal.returns-in-Some-clause-next
returns-in-Some-clause-next c =
    let q = c.args.self.now in
    inl (record {
      next = subst (IsNextOfConfigurable q (has c.args.silent.now)) c.in-Some.is c.in_ok-number.ensures.next;
      can = subst (λ o. IfSome o (IsConfigurableNow q)) c.in-Some.is c.in_ok-number.ensures.member;
    })

pub returns-then-ignore_depends-clause-next : goal.returns-then-ignore_depends-clause-next
returns-then-ignore_depends-clause-next c =
    let q = c.args.self.now in
    out_of_turn c.args.ignore_depends (has c.args.silent.now) q c.first_waiting.result c.if-ignore_depends.true
    (subst (IsNextOfConfigurable q (has c.args.silent.now)) c.in-None.is c.in_ok-number.ensures.next) (c.in_ok-number.ensures.none_left c.in-None.is) c.first_waiting.ensures

pub returns-else-ignore_depends-clause-next : goal.returns-else-ignore_depends-clause-next
returns-else-ignore_depends-clause-next c = record {
  none = subst (IsNextOfConfigurable c.args.self.now (has c.args.silent.now)) c.in-None.is c.in_ok-number.ensures.next;
  ignored = λ so. absurd (true≢false (sym so ∙ c.if-ignore_depends.false));
}

pub returns-else-ignore_depends-clause-none_left : goal.returns-else-ignore_depends-clause-none_left
returns-else-ignore_depends-clause-none_left c same = c.in_ok-number.ensures.none_left c.in-None.is
