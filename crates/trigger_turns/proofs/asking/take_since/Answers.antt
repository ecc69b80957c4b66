use Rattle.std.proofs.Common.{Ok, refl, subst}
use Rattle.unit_reports.specs.Held.{held_by}
use Rattle.trigger_turns.specs.Turns.{AddsAsked, TakesIn}
use Rattle.trigger_turns.proofs.Turned.{follows_noted}
use Rattle.trigger_turns.proofs.Abandoned.{full_abandoned}
use Rattle.trigger_turns.proofs.asking.take_since.Goals as goal

pub returns-in-Ok-true-clause-taken : goal.returns-in-Ok-true-clause-taken
returns-in-Ok-true-clause-taken g c =
    let old = c.args.session.now in
    let mid = c.note_asked.new.session in
    let asked = subst (λ b. AddsAsked c.args.units.now.items c.note_asked.new.units.items (held_by old.administration old.diversions) (held_by mid.administration mid.diversions) (g.H.Host.state old.host) (g.H.Host.state mid.host) (Ok b)) c.in-Ok-true.field-0-test c.in-Ok-true.ensures.noted in
    follows_noted c.args.chain.now c.args.left.now.wishes.items _ _ _ _ _ _ _ _ c.args.before.now c.take_noted.new.left.wishes.items c.take_noted.new.left.takes c.take_noted.result asked c.take_noted.ensures.held c.requires.pending
    c.take_noted.ensures.emptied c.take_noted.ensures.wished c.take_noted.ensures.full

pub returns-in-Ok-false-clause-taken : goal.returns-in-Ok-false-clause-taken
returns-in-Ok-false-clause-taken g c =
    let old = c.args.session.now in
    let mid = c.note_asked.new.session in
    let asked = subst (λ b. AddsAsked c.args.units.now.items c.note_asked.new.units.items (held_by old.administration old.diversions) (held_by mid.administration mid.diversions) (g.H.Host.state old.host) (g.H.Host.state mid.host) (Ok b)) c.in-Ok-false.field-0-test c.in-Ok-false.ensures.noted in
    TakesIn.quiet asked.0 asked.1 asked.2 refl c.requires.takes

pub returns-in-Ok-true-clause-abandoned : goal.returns-in-Ok-true-clause-abandoned
returns-in-Ok-true-clause-abandoned g c = full_abandoned _ c.take_noted.result _ _ c.take_noted.ensures.full
