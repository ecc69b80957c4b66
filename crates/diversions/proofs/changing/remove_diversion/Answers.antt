use Rattle.std.proofs.Common.{false, subst}
use Rattle.host_core.specs.Paths.{Path}
use Rattle.host_core.specs.Host.{AtEachMoment}
use Rattle.diversions.specs.Entries.{without}
use Rattle.diversions.specs.Changes.{IsBroughtFirst, IsUnderWay, OnDone, restored, restored_twice}
use Rattle.diversions.specs.Ways.{truename}
use Rattle.diversions.specs.Held.{ways_of}
use Rattle.diversions.proofs.Passing.{if_ok, ok_at, remove_answered}
use Rattle.diversions.proofs.Turning.{goes_here}
use Rattle.diversions.proofs.changing.remove_diversion.Goals as goal

pub returns-in_err-route-clause-turns : goal.returns-in_err-route-clause-turns
returns-in_err-route-clause-turns g c = goes_here _

pub returns-in-Ok-clause-answer : goal.returns-in-Ok-clause-answer
returns-in-Ok-clause-answer g c = λ h.
    let found = ok_at c.in_ok-route.field-0 c.in-Ok.route _ _ c.in-Ok.is c.in_ok-route.ensures in
    if_ok c.take_away.result (λ x is. remove_answered (g.H.Host.state c.args.host.now).world (ways_of c.args.ways.now) c.args.path.now c.in-Ok.route.from c.in-Ok.route.to c.args.owner.now c.args.rename x found.0 found.1 found.2 is) (c.take_away.ensures.answer h)

pub returns-in-Ok-clause-any_moment : goal.returns-in-Ok-clause-any_moment
returns-in-Ok-clause-any_moment g c =
    let found = ok_at c.in_ok-route.field-0 c.in-Ok.route _ _ c.in-Ok.is c.in_ok-route.ensures in
    let a = g.H.Host.state c.args.host.now in
    let b = g.H.Host.state c.take_away.new.host in
    subst (λ (to : Path). AtEachMoment (IsUnderWay (restored_twice to (truename (ways_of c.args.ways.now) c.args.path.now) c.args.rename) (restored to (truename (ways_of c.args.ways.now) c.args.path.now) c.args.rename) (without c.args.path.now c.args.ways.now.entries)) a b) found.2
    (subst (λ (from : Path). AtEachMoment (IsUnderWay (restored_twice c.in-Ok.route.to from c.args.rename) (restored c.in-Ok.route.to from c.args.rename) (without c.args.path.now c.args.ways.now.entries)) a b) found.1 c.take_away.ensures.any_moment)

pub returns-in-Ok-clause-brought : goal.returns-in-Ok-clause-brought
returns-in-Ok-clause-brought g c =
    let found = ok_at c.in_ok-route.field-0 c.in-Ok.route _ _ c.in-Ok.is c.in_ok-route.ensures in
    let a = g.H.Host.state c.args.host.now in
    let b = g.H.Host.state c.take_away.new.host in
    subst (λ (to : Path). OnDone c.take_away.result (IsBroughtFirst c.args.rename false (truename (ways_of c.args.ways.now) c.args.path.now) to a b)) found.2
    (subst (λ (from : Path). OnDone c.take_away.result (IsBroughtFirst c.args.rename false from c.in-Ok.route.to a b)) found.1 c.take_away.ensures.brought)

pub returns-in-Err-clause-turns : goal.returns-in-Err-clause-turns
returns-in-Err-clause-turns g c = goes_here _
