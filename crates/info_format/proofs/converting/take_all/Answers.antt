use Rattle.std.proofs.Common.{sym, subst, rules, arith, List, Contains}
use Rattle.std.proofs.lemmas.List.{take_all}
use Rattle.host_core.specs.World.{IsLoose}
use Rattle.host_core.proofs.Moments.{since_now, since_then}
use Rattle.administration.proofs.Within.{one_more, taken_more}
use Rattle.control_members.proofs.Starting.{since_here}
use Rattle.info_format.specs.declared.pairs.Pair.{Pair}
use Rattle.info_format.proofs.Steps.{gone_taken, short_loose, since_taking, taking_more, taking_start}
use Rattle.info_format.proofs.converting.take_all.Goals as goal

pub loop-pair-init : goal.loop-pair-init
loop-pair-init g c =
    let old = (g.H.Host.state c.args.host.now).world in
    record {
      silent = search rules;
      counts = search rules;
      taking = λ h. taking_start c.args.pairs.now old c.requires.apart;
      all = λ h p has. absurd (omega (arith, has.1));
      any_moment = since_here _ _ (λ h. taking_start c.args.pairs.now old c.requires.apart);
    }

pub returns-in_err-take-clause-any_moment : goal.returns-in_err-take-clause-any_moment
returns-in_err-take-clause-any_moment g c =
    let before = c.loop-pair.invariant in
    since_then _ _ _ _ before.any_moment
    (since_taking c.args.pairs.now _ c.requires.apart c.pair-item.result _ _ (c.loop-pair.pair-index, c.loop-pair-test.true, sym c.pair-item.is) (λ h. before.taking (c.take.ensures.silent.honest h)) c.take.ensures.any_moment)

pub loop-pair-preserved : goal.loop-pair-preserved
loop-pair-preserved g c =
    let before = c.loop-pair.invariant in
    let pairs = c.args.pairs.now in
    let p = c.pair-item.result in
    let old = (g.H.Host.state c.args.host.now).world in
    let now = (g.H.Host.state c.take.new.host).world in
    let has : Contains pairs p = (c.loop-pair.pair-index, c.loop-pair-test.true, sym c.pair-item.is) in
    let taken = since_now _ _ _ c.take.ensures.any_moment in
    record {
      silent = search rules;
      counts = search rules;
      taking = λ h. taking_more pairs old c.requires.apart p _ now has (before.taking (c.take.ensures.silent.honest h)) (taken h);
      all = λ h. subst (λ (seen : List Pair). (r : Pair) → Contains seen r → IsLoose (old r.short) → IsLoose (now r.long) → ⊥) (sym (taken_more pairs c.loop-pair.pair-index p c.loop-pair-test.true c.pair-item.is))
          (one_more (λ (r : Pair). IsLoose (old r.short) → IsLoose (now r.long) → ⊥) _ p
          (λ r there loose. gone_taken pairs old c.requires.apart p _ now r.long (taken h) (before.all (c.take.ensures.silent.honest h) r there loose))
          (λ loose. c.in_ok-take.ensures.taken h (short_loose pairs old c.requires.apart _ p has (before.taking (c.take.ensures.silent.honest h)) loose)));
      any_moment = since_then _ _ _ _ before.any_moment (since_taking pairs old c.requires.apart p _ _ has (λ h. before.taking (c.take.ensures.silent.honest h)) c.take.ensures.any_moment);
    }

pub returns-clause-taken : goal.returns-clause-taken
returns-clause-taken g c = λ h. record {
  taking = c.loop-pair.invariant.taking h;
  all = subst (λ (seen : List Pair). (r : Pair) → Contains seen r → IsLoose ((g.H.Host.state c.args.host.now).world r.short) → IsLoose ((g.H.Host.state c.loop-pair.host).world r.long) → ⊥) (take_all c.loop-pair.pair-index c.args.pairs.now c.loop-pair-test.false) (c.loop-pair.invariant.all h);
}
