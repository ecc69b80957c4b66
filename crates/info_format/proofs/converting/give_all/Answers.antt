use Rattle.std.proofs.Common.{sym, subst, rules, arith, List, Contains}
use Rattle.std.specs.Prelude.{IsSome}
use Rattle.std.proofs.lemmas.List.{take_all}
use Rattle.host_core.specs.World.{IsLoose}
use Rattle.host_core.proofs.Moments.{since_now, since_then}
use Rattle.administration.proofs.Within.{one_more, taken_more}
use Rattle.control_members.proofs.Starting.{since_here}
use Rattle.info_format.specs.declared.pairs.Pair.{Pair}
use Rattle.info_format.proofs.Copies.{aside_start, aside_then}
use Rattle.info_format.proofs.Steps.{giving_more, giving_start, loose_long, of_taken, parents_kept, since_giving, stays_given}
use Rattle.info_format.proofs.converting.give_all.Goals as goal

pub loop-pair-init : goal.loop-pair-init
loop-pair-init g c =
    let old = (g.H.Host.state c.args.host.now).world in
    record {
      silent = search rules;
      counts = search rules;
      giving = λ h. giving_start c.args.pairs.now old c.requires.apart;
      aside = λ h. aside_start old;
      all = λ h p has. absurd (omega (arith, has.1));
      any_moment = since_here _ _ (λ h. giving_start c.args.pairs.now old c.requires.apart);
    }

pub give-requires-clause-proper : goal.give-requires-clause-proper
give-requires-clause-proper g c = c.requires.apart.proper c.pair-item.result (c.loop-pair.pair-index, c.loop-pair-test.true, sym c.pair-item.is)

pub give-requires-clause-parent : goal.give-requires-clause-parent
give-requires-clause-parent g c = λ h.
    parents_kept c.args.pairs.now _ c.requires.apart _ (c.requires.parents (c.loop-pair.invariant.silent.honest h)) (c.loop-pair.invariant.giving h) c.pair-item.result (c.loop-pair.pair-index, c.loop-pair-test.true, sym c.pair-item.is)

pub returns-in_err-give-clause-any_moment : goal.returns-in_err-give-clause-any_moment
returns-in_err-give-clause-any_moment g c =
    let before = c.loop-pair.invariant in
    since_then _ _ _ _ before.any_moment
    (since_giving c.args.pairs.now _ c.requires.apart c.pair-item.result _ _ (c.loop-pair.pair-index, c.loop-pair-test.true, sym c.pair-item.is) (λ h. before.giving (c.give.ensures.silent.honest h)) c.give.ensures.any_moment)

pub loop-pair-preserved : goal.loop-pair-preserved
loop-pair-preserved g c =
    let before = c.loop-pair.invariant in
    let pairs = c.args.pairs.now in
    let p = c.pair-item.result in
    let old = (g.H.Host.state c.args.host.now).world in
    let now = (g.H.Host.state c.give.new.host).world in
    let has : Contains pairs p = (c.loop-pair.pair-index, c.loop-pair-test.true, sym c.pair-item.is) in
    let given = since_now _ _ _ c.give.ensures.any_moment in
    record {
      silent = search rules;
      counts = search rules;
      giving = λ h. giving_more pairs old c.requires.apart p _ now has (before.giving (c.give.ensures.silent.honest h)) (given h);
      aside = λ h. aside_then old _ now (before.aside (c.give.ensures.silent.honest h)) (c.in_ok-give.ensures.given h).aside;
      all = λ h. subst (λ (seen : List Pair). (r : Pair) → Contains seen r → IsLoose (old r.long) → IsSome (now r.short)) (sym (taken_more pairs c.loop-pair.pair-index p c.loop-pair-test.true c.pair-item.is))
          (one_more (λ (r : Pair). IsLoose (old r.long) → IsSome (now r.short)) _ p
          (λ r there loose. stays_given pairs old c.requires.apart p _ now r.short (c.requires.apart.proper r (of_taken pairs c.loop-pair.pair-index r there)).1 (given h) (before.all (c.give.ensures.silent.honest h) r there loose))
          (λ loose. (c.in_ok-give.ensures.given h).all (loose_long pairs old c.requires.apart _ p has (before.giving (c.give.ensures.silent.honest h)) loose)));
      any_moment = since_then _ _ _ _ before.any_moment (since_giving pairs old c.requires.apart p _ _ has (λ h. before.giving (c.give.ensures.silent.honest h)) c.give.ensures.any_moment);
    }

pub returns-clause-given : goal.returns-clause-given
returns-clause-given g c = λ h. record {
  giving = c.loop-pair.invariant.giving h;
  aside = c.loop-pair.invariant.aside h;
  all = subst (λ (seen : List Pair). (r : Pair) → Contains seen r → IsLoose ((g.H.Host.state c.args.host.now).world r.long) → IsSome ((g.H.Host.state c.loop-pair.host).world r.short)) (take_all c.loop-pair.pair-index c.args.pairs.now c.loop-pair-test.false) (c.loop-pair.invariant.all h);
}
