use Rattle.std.proofs.Common.{subst, sym}
use Rattle.recorded_packages.specs.Packages.{ArePackagesOf}
use Rattle.unit_stages.specs.Holding.{Holding, holding_of}
use Rattle.disappearance.proofs.Both.{behind_moments, behind_told, both_ran, calling_moments, gone_fit, same}
use Rattle.disappearance.proofs.Plans.{call_settleable}
use Rattle.disappearance.proofs.unit.run_both.Goals as goal

pub run_stages-requires-clause-named : goal.run_stages-requires-clause-named
run_stages-requires-clause-named g c = c.requires.planned.1.named

pub run_stages-requires-clause-fit : goal.run_stages-requires-clause-fit
run_stages-requires-clause-fit g c = c.requires.planned.1.call_fits

pub run_stages-requires-clause-settleable : goal.run_stages-requires-clause-settleable
run_stages-requires-clause-settleable g c = λ h. call_settleable c.args.plan.call.items c.requires.planned.0 _ c.requires.planned.1.calls

pub take_away-requires-clause-named : goal.take_away-requires-clause-named
take_away-requires-clause-named g c = c.requires.planned.1.named

pub take_away-requires-clause-fit : goal.take_away-requires-clause-fit
take_away-requires-clause-fit g c =
    gone_fit c.args.name.now c.args.diversions.now.ways c.args.plan.call.items c.args.plan.gone.items (holding_of c.args.administration.now) (g.H.Host.state c.args.host.now) c.requires.planned.0 c.requires.planned.1.calls
    c.in-Ok.failed (holding_of c.run_stages.new.administration) (g.H.Host.state c.run_stages.new.host) c.args.told.now.items c.run_stages.new.told.items c.in-Ok.ensures.ran c.requires.planned.1.gone_fits

pub take_away-requires-clause-indexed : goal.take_away-requires-clause-indexed
take_away-requires-clause-indexed g c =
    subst (λ (h : Holding). ArePackagesOf h.records c.args.packages.now)
    (sym (same c.args.name.now c.args.diversions.now.ways c.args.plan.call.items c.args.plan.gone.items (holding_of c.args.administration.now) (g.H.Host.state c.args.host.now) c.requires.planned.0 c.requires.planned.1.calls
    c.in-Ok.failed (holding_of c.run_stages.new.administration) (g.H.Host.state c.run_stages.new.host) c.args.told.now.items c.run_stages.new.told.items c.in-Ok.ensures.ran))
    c.requires.indexed

pub take_away-requires-clause-quiet : goal.take_away-requires-clause-quiet
take_away-requires-clause-quiet g c = (c.requires.planned.1.entry, c.requires.planned.1.goes)

pub returns-in-Ok-take_away-clause-ran : goal.returns-in-Ok-take_away-clause-ran
returns-in-Ok-take_away-clause-ran g c =
    both_ran c.args.name.now c.args.diversions.now.ways c.args.plan.call.items c.args.plan.gone.items (holding_of c.args.administration.now) (g.H.Host.state c.args.host.now) c.requires.planned.0 c.requires.planned.1.calls
    c.in-Ok.failed (holding_of c.run_stages.new.administration) (g.H.Host.state c.run_stages.new.host) c.args.told.now.items c.run_stages.new.told.items c.in-Ok.ensures.ran
    (holding_of c.take_away.new.administration) (g.H.Host.state c.take_away.new.host) c.take_away.new.told.items c.in-Ok-take_away.ensures.taken c.take_away.ensures.untold

pub returns-in-Ok-take_away-clause-told : goal.returns-in-Ok-take_away-clause-told
returns-in-Ok-take_away-clause-told g c =
    behind_told c.args.name.now c.args.diversions.now.ways c.args.plan.call.items c.args.plan.gone.items (holding_of c.args.administration.now) (g.H.Host.state c.args.host.now) c.requires.planned.0 c.requires.planned.1.calls
    c.in-Ok.failed (holding_of c.run_stages.new.administration) (g.H.Host.state c.run_stages.new.host) c.args.told.now.items c.run_stages.new.told.items c.in-Ok.ensures.ran
    (g.H.Host.state c.take_away.new.host) c.take_away.new.told.items c.take_away.ensures.silent c.take_away.ensures.untold

pub returns-in-Ok-take_away-clause-any_moment : goal.returns-in-Ok-take_away-clause-any_moment
returns-in-Ok-take_away-clause-any_moment g c =
    behind_moments c.args.name.now c.args.diversions.now.ways c.args.plan.call.items c.args.plan.gone.items (holding_of c.args.administration.now) (g.H.Host.state c.args.host.now) c.requires.planned.0 c.requires.planned.1.calls
    c.in-Ok.failed (holding_of c.run_stages.new.administration) (g.H.Host.state c.run_stages.new.host) c.args.told.now.items c.run_stages.new.told.items c.in-Ok.ensures.ran
    (g.H.Host.state c.take_away.new.host) c.run_stages.ensures.any_moment c.take_away.ensures.any_moment

pub returns-in-Err-take_away-clause-told : goal.returns-in-Err-take_away-clause-told
returns-in-Err-take_away-clause-told g c =
    behind_told c.args.name.now c.args.diversions.now.ways c.args.plan.call.items c.args.plan.gone.items (holding_of c.args.administration.now) (g.H.Host.state c.args.host.now) c.requires.planned.0 c.requires.planned.1.calls
    c.in-Ok.failed (holding_of c.run_stages.new.administration) (g.H.Host.state c.run_stages.new.host) c.args.told.now.items c.run_stages.new.told.items c.in-Ok.ensures.ran
    (g.H.Host.state c.take_away.new.host) c.take_away.new.told.items c.take_away.ensures.silent c.take_away.ensures.untold

pub returns-in-Err-take_away-clause-any_moment : goal.returns-in-Err-take_away-clause-any_moment
returns-in-Err-take_away-clause-any_moment g c =
    behind_moments c.args.name.now c.args.diversions.now.ways c.args.plan.call.items c.args.plan.gone.items (holding_of c.args.administration.now) (g.H.Host.state c.args.host.now) c.requires.planned.0 c.requires.planned.1.calls
    c.in-Ok.failed (holding_of c.run_stages.new.administration) (g.H.Host.state c.run_stages.new.host) c.args.told.now.items c.run_stages.new.told.items c.in-Ok.ensures.ran
    (g.H.Host.state c.take_away.new.host) c.run_stages.ensures.any_moment c.take_away.ensures.any_moment

pub returns-in-Err-clause-any_moment : goal.returns-in-Err-clause-any_moment
returns-in-Err-clause-any_moment g c =
    calling_moments c.args.name.now c.args.diversions.now.ways c.args.plan.call.items c.args.plan.gone.items (holding_of c.args.administration.now) (g.H.Host.state c.args.host.now) (g.H.Host.state c.run_stages.new.host) c.run_stages.ensures.any_moment
