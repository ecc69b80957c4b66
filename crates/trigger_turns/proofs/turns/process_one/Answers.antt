use Rattle.std.proofs.Common.{List, ℕ, subst}
use Rattle.unit_reports.specs.Held.{held_by}
use Rattle.trigger_turns.specs.Turns.{HasProcessedNamed}
use Rattle.trigger_turns.proofs.Turned.{told_then, turn_behind, turn_unprocessed}
use Rattle.trigger_turns.proofs.turns.process_one.Goals as goal

pub returns-in-Ok-clause-turned : goal.returns-in-Ok-clause-turned
returns-in-Ok-clause-turned g c = λ name wishes turn is chained left.
    let old = c.args.session.now in
    let mid = c.process_named.new.session in
    let report = c.in-Ok.ensures.processed in
    turn_behind name wishes c.args.left.now.takes report.0 c.args.units.now.items c.process_named.new.units.items c.follow.new.units.items _ _ _ _ _ _ _ _ c.args.chain.now c.args.left.now.wishes.items c.follow.result
    (record { is = turn; processed = subst (λ (names : List (List ℕ)). HasProcessedNamed names report.0 (held_by old.administration old.diversions) (held_by mid.administration mid.diversions) (g.H.Host.state old.host) (g.H.Host.state mid.host)) is report.1 })
    report.3 report.2 chained left c.follow.ensures.followed

pub returns-in-Ok-clause-watched : goal.returns-in-Ok-clause-watched
returns-in-Ok-clause-watched g c = told_then _ c.args.units.now.items c.process_named.new.units.items c.follow.new.units.items _ _ _ c.process_named.ensures.watched c.follow.ensures.watched

pub returns-in-Err-clause-turned : goal.returns-in-Err-clause-turned
returns-in-Err-clause-turned g c = λ name wishes turn is chained left.
    let old = c.args.session.now in
    let mid = c.process_named.new.session in
    let report = c.in-Err.ensures.processed in
    turn_unprocessed (Unit {0}) name wishes c.args.left.now.takes report.0 c.args.units.now.items c.process_named.new.units.items _ _ _ _ c.args.left.now.wishes.items c.args.left.now.takes c.in-Err.unit
    (record { is = turn; processed = subst (λ (names : List (List ℕ)). HasProcessedNamed names report.0 (held_by old.administration old.diversions) (held_by mid.administration mid.diversions) (g.H.Host.state old.host) (g.H.Host.state mid.host)) is report.1 })
    report.3 report.2
