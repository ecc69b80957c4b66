use Rattle.std.proofs.Common.{◌≡◌, sym, subst, true, rules, List}
use Rattle.std.proofs.lemmas.List.{take_all}
use Rattle.host_core.specs.World.{World}
use Rattle.host_core.proofs.Moments.{reads_then}
use Rattle.administration.proofs.Within.{one_more, taken_more}
use Rattle.file_lists.proofs.Looked.{fault_told}
use Rattle.info_format.specs.Steps.{AreFit, IsUnfit, IsUnfitAmong}
use Rattle.info_format.specs.Tests.{fits}
use Rattle.info_format.specs.declared.pairs.Pair.{Pair}
use Rattle.info_format.proofs.Steps.{unfit_among}
use Rattle.info_format.proofs.converting.check_all.Goals as goal

pub returns-in_err-check-clause-fault : goal.returns-in_err-check-clause-fault
returns-in_err-check-clause-fault g c = λ h.
    let w = (g.H.Host.state c.args.host.now).world in
    let p = c.pair-item.result in
    let fault = c.in_err-check.field-0.0 in
    fault_told (IsUnfitAmong c.args.one w c.args.pairs.now) fault c.from_residual.result c.from_residual.ensures.1
    (unfit_among c.args.one w c.args.pairs.now p fault (c.loop-pair.pair-index, c.loop-pair-test.true, sym c.pair-item.is) (subst (λ (v : World). IsUnfit c.args.one v p fault) c.loop-pair.invariant.reads.world (c.in_err-check.ensures.fault h)))

pub returns-in_err-check-clause-reads : goal.returns-in_err-check-clause-reads
returns-in_err-check-clause-reads g c = reads_then _ _ _ c.loop-pair.invariant.reads c.check.ensures.reads

pub loop-pair-preserved : goal.loop-pair-preserved
loop-pair-preserved g c =
    let before = c.loop-pair.invariant in
    let w = (g.H.Host.state c.args.host.now).world in
    let pairs = c.args.pairs.now in
    let p = c.pair-item.result in
    record {
      silent = search rules;
      counts = search rules;
      reads = reads_then _ _ _ before.reads c.check.ensures.reads;
      fit = λ h. subst (λ (seen : List Pair). AreFit c.args.one seen w) (sym (taken_more pairs c.loop-pair.pair-index p c.loop-pair-test.true c.pair-item.is))
          (one_more (λ (r : Pair). fits c.args.one (w r.long) (w r.short) ≡ true) _ p (before.fit (c.check.ensures.silent.honest h))
          (subst (λ (v : World). fits c.args.one (v p.long) (v p.short) ≡ true) before.reads.world (c.in_ok-check.ensures.fit h)));
    }

pub returns-clause-fit : goal.returns-clause-fit
returns-clause-fit g c = λ h. subst (λ (seen : List Pair). AreFit c.args.one seen (g.H.Host.state c.args.host.now).world) (take_all c.loop-pair.pair-index c.args.pairs.now c.loop-pair-test.false) (c.loop-pair.invariant.fit h)
