use Rattle.std.proofs.Common.{rules}
use Rattle.host_core.proofs.Moments.{since_then, since_weaker_if}
use Rattle.conffiles.specs.Settling.{AreSettling}
use Rattle.conffiles.proofs.SettlingLists.{far_start, far_more, amid, can_at, since_settling}
use Rattle.conffiles.proofs.settling.apply.Goals as goal

pub loop-entry-init : goal.loop-entry-init
loop-entry-init g c = record {
  silent = search rules;
  counts = search rules;
  far = λ h. far_start c.args.list.now (g.H.Host.state c.args.host.now).world;
  any_moment = since_settling c.args.list.now (g.H.Host.state c.args.host.now) c.requires.can;
}

pub settle-requires : goal.settle-requires
settle-requires g c = λ h.
    let before = c.loop-entry.invariant in
    can_at c.args.list.now _ (g.H.Host.state c.args.host.now).world _ c.entry-item.result c.loop-entry-test.true c.entry-item.is (before.far h) (c.requires.can (before.silent.honest h))

pub returns-in_err-settle-clause-any_moment : goal.returns-in_err-settle-clause-any_moment
returns-in_err-settle-clause-any_moment g c =
    let before = c.loop-entry.invariant in
    let old = (g.H.Host.state c.args.host.now).world in
    since_then (λ so_far. AreSettling c.args.list.now old) _ _ _ before.any_moment
    (since_weaker_if _ _ _ _ (λ h so_far w is. amid c.args.list.now _ old _ w c.entry-item.result c.requires.once c.loop-entry-test.true c.entry-item.is (before.far (c.settle.ensures.silent.honest h)) is) c.settle.ensures.any_moment)

pub loop-entry-preserved : goal.loop-entry-preserved
loop-entry-preserved g c =
    let before = c.loop-entry.invariant in
    let old = (g.H.Host.state c.args.host.now).world in
    record {
      silent = search rules;
      counts = search rules;
      far = λ h. far_more c.args.list.now _ old _ _ c.entry-item.result c.requires.once c.loop-entry-test.true c.entry-item.is (before.far (c.settle.ensures.silent.honest h)) (c.in_ok-settle.ensures.settled h);
      any_moment = since_then (λ so_far. AreSettling c.args.list.now old) _ _ _ before.any_moment
          (since_weaker_if _ _ _ _ (λ h so_far w is. amid c.args.list.now _ old _ w c.entry-item.result c.requires.once c.loop-entry-test.true c.entry-item.is (before.far (c.settle.ensures.silent.honest h)) is) c.settle.ensures.any_moment);
    }
