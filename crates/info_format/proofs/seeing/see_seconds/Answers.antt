use Rattle.std.proofs.Common.{inl, sym, subst, rules, arith, List, Contains}
use Rattle.std.specs.Prelude.{IsSome}
use Rattle.std.proofs.lemmas.List.{take_all}
use Rattle.host_core.specs.World.{World, HasParent, IsLoose}
use Rattle.host_core.proofs.Moments.{reads_then}
use Rattle.host_overlay.specs.Seen.{AreSources, seen}
use Rattle.administration.proofs.Within.{one_more, taken_more}
use Rattle.info_format.specs.Seeing.{HasSecond}
use Rattle.info_format.specs.declared.pairs.Pair.{Pair}
use Rattle.info_format.proofs.Copies.{aside_given, aside_start, aside_then}
use Rattle.info_format.proofs.Steps.{giving_more, giving_start, loose_long, of_taken, parents_kept, stays_given}
use Rattle.info_format.proofs.seeing.see_seconds.Goals as goal

pub loop-pair-init : goal.loop-pair-init
loop-pair-init g c =
    let old = seen c.args.names.now (g.H.Host.state c.args.host.now).world in
    record {
      silent = search rules;
      counts = search rules;
      reads = search rules;
      giving = λ h. giving_start c.args.pairs.now old c.requires.apart;
      aside = λ h. aside_start old;
      all = λ h p has. absurd (omega (arith, has.1));
      sources = λ h are. are;
    }

pub see_second-requires : goal.see_second-requires
see_second-requires g c = record {
  parent = λ h.
      let before = c.loop-pair.invariant in
      let w = (g.H.Host.state c.args.host.now).world in
      subst (λ (v : World). HasParent (seen c.loop-pair.names v) c.pair-item.result.short) (sym before.reads.world)
      (parents_kept c.args.pairs.now (seen c.args.names.now w) c.requires.apart (seen c.loop-pair.names w) (c.requires.parents (before.silent.honest h)) (before.giving h) c.pair-item.result (c.loop-pair.pair-index, c.loop-pair-test.true, sym c.pair-item.is));
}

pub returns-in_err-see_second-clause-reads : goal.returns-in_err-see_second-clause-reads
returns-in_err-see_second-clause-reads g c = reads_then _ _ _ c.loop-pair.invariant.reads c.see_second.ensures.reads

pub loop-pair-preserved : goal.loop-pair-preserved
loop-pair-preserved g c =
    let before = c.loop-pair.invariant in
    let pairs = c.args.pairs.now in
    let p = c.pair-item.result in
    let w = (g.H.Host.state c.args.host.now).world in
    let old = seen c.args.names.now w in
    let now = seen c.see_second.new.names w in
    let has : Contains pairs p = (c.loop-pair.pair-index, c.loop-pair-test.true, sym c.pair-item.is) in
    record {
      silent = search rules;
      counts = search rules;
      reads = reads_then _ _ _ before.reads c.see_second.ensures.reads;
      giving = λ h.
          let h1 = c.see_second.ensures.silent.honest h in
          let is = subst (λ (v : World). HasSecond p.long p.short (seen c.loop-pair.names v) (seen c.see_second.new.names v)) before.reads.world (c.in_ok-see_second.ensures.given h) in
          giving_more pairs old c.requires.apart p _ now has (before.giving h1) (inl is.moves);
      aside = λ h.
          let h1 = c.see_second.ensures.silent.honest h in
          let is = subst (λ (v : World). HasSecond p.long p.short (seen c.loop-pair.names v) (seen c.see_second.new.names v)) before.reads.world (c.in_ok-see_second.ensures.given h) in
          aside_then old _ now (before.aside h1) (aside_given p.long p.short _ now (c.requires.apart.proper p has).1 is.moves);
      all = λ h.
          let h1 = c.see_second.ensures.silent.honest h in
          let is = subst (λ (v : World). HasSecond p.long p.short (seen c.loop-pair.names v) (seen c.see_second.new.names v)) before.reads.world (c.in_ok-see_second.ensures.given h) in
          subst (λ (some : List Pair). (r : Pair) → Contains some r → IsLoose (old r.long) → IsSome (now r.short)) (sym (taken_more pairs c.loop-pair.pair-index p c.loop-pair-test.true c.pair-item.is))
          (one_more (λ (r : Pair). IsLoose (old r.long) → IsSome (now r.short)) _ p
          (λ r there loose. stays_given pairs old c.requires.apart p _ now r.short (c.requires.apart.proper r (of_taken pairs c.loop-pair.pair-index r there)).1 (inl is.moves) (before.all h1 r there loose))
          (λ loose. is.all (loose_long pairs old c.requires.apart _ p has (before.giving h1) loose)));
      sources = λ h are.
          subst (λ (v : World). AreSources c.loop-pair.names v → AreSources c.see_second.new.names v) before.reads.world (c.in_ok-see_second.ensures.there h) (before.sources (c.see_second.ensures.silent.honest h) are);
    }

pub returns-clause-given : goal.returns-clause-given
returns-clause-given g c = λ h. record {
  giving = c.loop-pair.invariant.giving h;
  aside = c.loop-pair.invariant.aside h;
  all = subst (λ (some : List Pair). (r : Pair) → Contains some r → IsLoose (seen c.args.names.now (g.H.Host.state c.args.host.now).world r.long) → IsSome (seen c.loop-pair.names (g.H.Host.state c.args.host.now).world r.short)) (take_all c.loop-pair.pair-index c.args.pairs.now c.loop-pair-test.false) (c.loop-pair.invariant.all h);
}
