use Rattle.std.proofs.Common.{is_some, ap, subst}
use Rattle.host_core.specs.World.{World}
use Rattle.unit_stages.specs.Holding.{holding_of}
use Rattle.disappearance.specs.Stages.{IsPlan}
use Rattle.disappearance.proofs.Looking.{goes_seen, it_goes, it_stays}
use Rattle.disappearance.proofs.unit.decide.Goals as goal

pub plan_stages-requires : goal.plan_stages-requires
plan_stages-requires g c = record {
  known = ap is_some (it_goes c.args.incoming.now c.args.diversions.now.ways c.args.losing.now (holding_of c.args.administration.now) _ _ c.in_ok-goes.goes c.if-not-goes.false c.in_ok-goes.ensures.verdict).there.found;
}

pub returns-then-not-goes-clause-decision : goal.returns-then-not-goes-clause-decision
returns-then-not-goes-clause-decision g c =
    it_stays c.args.incoming.now c.args.diversions.now.ways c.args.losing.now (holding_of c.args.administration.now) _ _ c.in_ok-goes.goes c.if-not-goes.true c.in_ok-goes.ensures.verdict

pub returns-clause-decision : goal.returns-clause-decision
returns-clause-decision g c =
    let h = holding_of c.args.administration.now in
    let old = g.H.Host.state c.args.host.now in
    let mid = g.H.Host.state c.look.new.host in
    let new = g.H.Host.state c.plan_stages.new.host in
    let plan = c.in_ok-plan.plan in (
      goes_seen c.args.incoming.now c.args.version.now c.args.diversions.now.ways c.args.losing.now h old.world mid.honest new.honest c.plan_stages.ensures.silent.honest
          (it_goes c.args.incoming.now c.args.diversions.now.ways c.args.losing.now h _ _ c.in_ok-goes.goes c.if-not-goes.false c.in_ok-goes.ensures.verdict),
      subst (λ (w : World). IsPlan c.args.incoming.now c.args.version.now c.args.losing.now.name h w new.honest plan.call.items plan.gone.items) c.look.ensures.reads.world (c.in_ok-plan.ensures.plan c.args.administration.now.lists.lists),
    )
