use Rattle.std.proofs.Common.{subst}
use Rattle.std.specs.Prelude.{◌++◌, ◌∷◌, []}
use Rattle.host_core.specs.Host.{AtEachMoment}
use Rattle.diversions.specs.Changes.{IsBroughtFirst, IsUnderWay, OnDone, set_aside, set_aside_twice}
use Rattle.diversions.specs.declared.route.Route.{Route}
use Rattle.diversions.proofs.Turning.{goes_here}
use Rattle.diversions.proofs.changing.add_other.Goals as goal

pub returns-in_err-route-clause-turns : goal.returns-in_err-route-clause-turns
returns-in_err-route-clause-turns g c = goes_here _

pub returns-clause-any_moment : goal.returns-clause-any_moment
returns-clause-any_moment g c =
    subst (λ (r : Route). AtEachMoment (IsUnderWay (set_aside_twice r.from r.to c.args.rename c.args.seen) (set_aside r.from r.to c.args.rename c.args.seen) (c.args.ways.now.entries ++ c.args.entry.now ∷ [])) (g.H.Host.state c.args.host.now) (g.H.Host.state c.add_along.new.host))
    c.in_ok-route.ensures c.add_along.ensures.any_moment

pub returns-clause-brought : goal.returns-clause-brought
returns-clause-brought g c =
    subst (λ (r : Route). OnDone c.add_along.result (IsBroughtFirst c.args.rename c.args.seen.listed r.from r.to (g.H.Host.state c.args.host.now) (g.H.Host.state c.add_along.new.host))) c.in_ok-route.ensures c.add_along.ensures.brought
