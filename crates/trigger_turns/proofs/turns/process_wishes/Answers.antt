use Rattle.std.proofs.Common.{◌≡◌, ◌∙◌, ◌<◌, ◌⊎◌, Bool, List, Ok, true, arith, inl, inr, refl, subst, sym}
use Rattle.unit_reports.specs.Held.{held_by}
use Rattle.unit_reports.specs.declared.report.Unit.{Unit as AUnit}
use Rattle.trigger_turns.specs.Told.{AreToldInTurns}
use Rattle.trigger_turns.specs.Turns.{AreTurned, HasTurned, RunsTurn, most_turns}
use Rattle.trigger_turns.proofs.Turned.{more_turned, over_early, told_on, turned_broken}
use Rattle.trigger_turns.proofs.turns.process_wishes.Goals as goal

pub loop-turn-init : goal.loop-turn-init
loop-turn-init g c =
    let wishes = c.args.wishes.items in
    let before = held_by c.args.session.now.administration c.args.session.now.diversions in
    let s = g.H.Host.state c.args.session.now.host in
    let watcher = c.args.watcher.now in (
      subst (λ (us : List AUnit). AreTurned wishes c.args.takes before s 0 us wishes c.args.takes before s) (sym c.new-units.ensures.items) AreTurned.begun,
      c.requires,
      subst (λ (us : List AUnit). AreToldInTurns g.W.Watcher.tells watcher us watcher) (sym c.new-units.ensures.items) AreToldInTurns.nothing,
    )

pub loop-turn-preserved : goal.loop-turn-preserved
loop-turn-preserved g c =
    let l = c.loop-turn in
    let left = c.run_turn.new.left in
    let session = c.run_turn.new.session in
    let between = held_by l.session.administration l.session.diversions in
    let after = held_by session.administration session.diversions in
    let m = g.H.Host.state l.session.host in
    let t = g.H.Host.state session.host in
    let run = subst (λ b. RunsTurn l.left.wishes.items l.left.takes left.wishes.items left.takes l.units.items c.run_turn.new.units.items between after m t (Ok b)) c.in-Ok-true.field-0-test c.in-Ok-true.ensures.turned in
    (more_turned _ _ _ _ l._turn l.units.items c.run_turn.new.units.items l.left.wishes.items left.wishes.items l.left.takes left.takes between after m t l.invariant.0 run, c.in-Ok-true.ensures.open, told_on _ _ _ _ _ _ l.invariant.2 c.run_turn.ensures.watched)

pub returns-in-Ok-false-clause-turned : goal.returns-in-Ok-false-clause-turned
returns-in-Ok-false-clause-turned g c =
    let l = c.loop-turn in
    let left = c.run_turn.new.left in
    let session = c.run_turn.new.session in
    let between = held_by l.session.administration l.session.diversions in
    let after = held_by session.administration session.diversions in
    let m = g.H.Host.state l.session.host in
    let t = g.H.Host.state session.host in
    let run = subst (λ b. RunsTurn l.left.wishes.items l.left.takes left.wishes.items left.takes l.units.items c.run_turn.new.units.items between after m t (Ok b)) c.in-Ok-false.field-0-test c.in-Ok-false.ensures.turned in
    let short : l._turn < most_turns = omega arith in
    over_early _ _ _ _ l.units.items c.run_turn.new.units.items l._turn l.left.wishes.items l.left.takes between after m t left.wishes.items left.takes _ l.invariant.0 short run refl refl

pub returns-in-Ok-false-clause-watched : goal.returns-in-Ok-false-clause-watched
returns-in-Ok-false-clause-watched g c = told_on _ _ _ _ _ _ c.loop-turn.invariant.2 c.run_turn.ensures.watched

pub returns-in-Err-clause-turned : goal.returns-in-Err-clause-turned
returns-in-Err-clause-turned g c =
    let l = c.loop-turn in
    let left = c.run_turn.new.left in
    let short : l._turn < most_turns = omega arith in
    turned_broken _ _ _ _ l.units.items c.run_turn.new.units.items l._turn l.left.wishes.items l.left.takes _ _ _ _ left.wishes.items left.takes c.in-Err.unit _ l.invariant.0 short c.in-Err.ensures.turned refl refl

pub returns-in-Err-clause-watched : goal.returns-in-Err-clause-watched
returns-in-Err-clause-watched g c = told_on _ _ _ _ _ _ c.loop-turn.invariant.2 c.run_turn.ensures.watched

pub returns-clause-turned : goal.returns-clause-turned
returns-clause-turned g c =
    let l = c.loop-turn in
    let all : l._turn ≡ most_turns = omega arith in
    HasTurned.over l._turn l.left.wishes.items l.left.takes l.invariant.0 (inr all) refl

pub returns-clause-watched : goal.returns-clause-watched
returns-clause-watched g c = c.loop-turn.invariant.2
