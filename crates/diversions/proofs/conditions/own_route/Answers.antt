use Rattle.std.proofs.Common.{◌∙◌, ap}
use Rattle.std.proofs.lemmas.Bool.{iff_false}
use Rattle.diversions.specs.declared.route.Route.{Route}
use Rattle.diversions.specs.Held.{ways_of}
use Rattle.diversions.proofs.Owners.{owner_none, owner_other, owner_own, own_target}
use Rattle.diversions.proofs.conditions.own_route.Goals as goal

pub returns-then-not-is : goal.returns-then-not-is
returns-then-not-is c = owner_other c.args.ways.now.entries c.as_str.result.now c.args.path.now c.args.owner.now c.as_str.ensures c.in-Some.entry.now c.in-Some.ensures (iff_false c.is.ensures c.if-not-is.true)

pub returns-in_ok-route_of-in-Some : goal.returns-in_ok-route_of-in-Some
returns-in_ok-route_of-in-Some c = (
  owner_own c.args.ways.now.entries c.as_str.result.now c.args.path.now c.args.owner.now c.as_str.ensures c.in-Some.entry.now c.in-Some.ensures (c.is.ensures.0 c.if-not-is.false),
  ap (λ (r : Route). r.from) c.in_ok-route_of-in-Some.ensures ∙ own_target (ways_of c.args.ways.now) c.as_str.result.now c.args.path.now c.in-Some.entry.now c.as_str.ensures c.in-Some.ensures,
  ap (λ (r : Route). r.to) c.in_ok-route_of-in-Some.ensures,
)

pub returns-in-None : goal.returns-in-None
returns-in-None c = owner_none c.args.ways.now.entries c.as_str.result.now c.args.path.now c.args.owner.now c.as_str.ensures c.in-None.ensures
