use Rattle.std.proofs.Common.{sym, subst, rules, arith, List, Contains}
use Rattle.std.specs.Prelude.{IsSome}
use Rattle.std.proofs.lemmas.List.{take_all}
use Rattle.host_core.specs.World.{World, IsLoose}
use Rattle.host_core.proofs.Moments.{reads_then}
use Rattle.host_overlay.specs.Seen.{AreSources, seen}
use Rattle.administration.proofs.Within.{one_more, taken_more}
use Rattle.info_format.specs.Seeing.{HasNoFirst}
use Rattle.info_format.specs.declared.pairs.Pair.{Pair}
use Rattle.info_format.proofs.Steps.{gone_taken, short_loose, taking_more, taking_start}
use Rattle.info_format.proofs.seeing.lose_firsts.Goals as goal

pub loop-pair-init : goal.loop-pair-init
loop-pair-init g c =
    let old = seen c.args.names.now (g.H.Host.state c.args.host.now).world in
    record {
      silent = search rules;
      counts = search rules;
      reads = search rules;
      taking = λ h. taking_start c.args.pairs.now old c.requires.apart;
      all = λ h p has. absurd (omega (arith, has.1));
      sources = λ h are. are;
    }

pub returns-in_err-lose_first-clause-reads : goal.returns-in_err-lose_first-clause-reads
returns-in_err-lose_first-clause-reads g c = reads_then _ _ _ c.loop-pair.invariant.reads c.lose_first.ensures.reads

pub loop-pair-preserved : goal.loop-pair-preserved
loop-pair-preserved g c =
    let before = c.loop-pair.invariant in
    let pairs = c.args.pairs.now in
    let p = c.pair-item.result in
    let w = (g.H.Host.state c.args.host.now).world in
    let old = seen c.args.names.now w in
    let now = seen c.lose_first.new.names w in
    let has : Contains pairs p = (c.loop-pair.pair-index, c.loop-pair-test.true, sym c.pair-item.is) in
    record {
      silent = search rules;
      counts = search rules;
      reads = reads_then _ _ _ before.reads c.lose_first.ensures.reads;
      taking = λ h.
          let h1 = c.lose_first.ensures.silent.honest h in
          let is = subst (λ (v : World). HasNoFirst p.long p.short (seen c.loop-pair.names v) (seen c.lose_first.new.names v)) before.reads.world (c.in_ok-lose_first.ensures.taken h) in
          taking_more pairs old c.requires.apart p _ now has (before.taking h1) is.moves;
      all = λ h.
          let h1 = c.lose_first.ensures.silent.honest h in
          let is = subst (λ (v : World). HasNoFirst p.long p.short (seen c.loop-pair.names v) (seen c.lose_first.new.names v)) before.reads.world (c.in_ok-lose_first.ensures.taken h) in
          subst (λ (some : List Pair). (r : Pair) → Contains some r → IsLoose (old r.short) → IsLoose (now r.long) → ⊥) (sym (taken_more pairs c.loop-pair.pair-index p c.loop-pair-test.true c.pair-item.is))
          (one_more (λ (r : Pair). IsLoose (old r.short) → IsLoose (now r.long) → ⊥) _ p
          (λ r there loose. gone_taken pairs old c.requires.apart p _ now r.long is.moves (before.all h1 r there loose))
          (λ loose. is.all (short_loose pairs old c.requires.apart _ p has (before.taking h1) loose)));
      sources = λ h are.
          subst (λ (v : World). AreSources c.loop-pair.names v → AreSources c.lose_first.new.names v) before.reads.world (c.in_ok-lose_first.ensures.there h) (before.sources (c.lose_first.ensures.silent.honest h) are);
    }

pub returns-clause-taken : goal.returns-clause-taken
returns-clause-taken g c = λ h. record {
  taking = c.loop-pair.invariant.taking h;
  all = subst (λ (some : List Pair). (r : Pair) → Contains some r → IsLoose (seen c.args.names.now (g.H.Host.state c.args.host.now).world r.short) → IsLoose (seen c.loop-pair.names (g.H.Host.state c.args.host.now).world r.long) → ⊥) (take_all c.loop-pair.pair-index c.args.pairs.now c.loop-pair-test.false) (c.loop-pair.invariant.all h);
}
