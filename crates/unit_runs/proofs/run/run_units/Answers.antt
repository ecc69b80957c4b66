use Rattle.std.proofs.Common.{◌++◌, List, refl, subst, sym, ◌∙◌}
use Rattle.host_core.specs.Host.{AtEachMomentOf}
use Rattle.undo_rows.proofs.Makes.{tells_none, tells_then}
use Rattle.undo_rows.specs.Transcript.{TellsAll}
use Rattle.unit_reports.proofs.Telling.{answered_then}
use Rattle.unit_reports.specs.Held.{held_by}
use Rattle.unit_reports.specs.Units.{calls_of}
use Rattle.unit_reports.specs.declared.report.Unit.{Unit as AUnit}
use Rattle.unit_runs.specs.Taking.{AddsTurn, GoesOn}
use Rattle.unit_runs.specs.Turns.{GoesTo, IsAmidNext, IsBrokenNext}
use Rattle.unit_runs.proofs.Going.{all_turned, goes_once, goes_then, no_turn, one_turn_more, since_more, since_turns_start, stopped}
use Rattle.unit_reports.proofs.Counting.{counts_from, no_fault_here}
use Rattle.unit_runs.proofs.Taken.{tells_last}
use Rattle.unit_runs.proofs.run.run_units.Goals as goal
use Rattle.host_core.proofs.Barriers.{answered_here}
use Rattle.host_core.proofs.Counted.{no_fault_then}

pub loop-unit-init : goal.loop-unit-init
loop-unit-init g c =
    let old = g.H.Host.state c.args.host.now in
    let before = held_by c.args.administration.now (g.T.Turns.diverted c.args.turns.now) in
    let task = g.T.Turns.task c.args.turns.now in
    let start = g.T.Turns.left c.args.turns.now in
    let us = c.args.units.now.items in
    record {
      turned = no_turn (g.T.Turns.turn task) start before old us;
      between = c.requires.between;
      is_open = c.requires.open;
      order = c.requires.order;
      answered = answered_here old;
      told = tells_none old old (calls_of us) (calls_of us) refl refl;
      moments = since_turns_start (g.T.Turns.turn task) start before old (g.T.Turns.amid task) (λ later. GoesTo (g.T.Turns.goes task) later start) GoesTo.here;
      no_fault = no_fault_here old;
      same_task = refl;
      goes = GoesTo.here;
      watched = c.what_is_told_in_turn.ensures.none_added old c.args.watcher.now us;
    }

pub loop-unit-preserved : goal.loop-unit-preserved
loop-unit-preserved g c =
    let l = c.loop-unit in
    let inv = l.invariant in
    let old = g.H.Host.state c.args.host.now in
    let now = g.H.Host.state l.host in
    let new = g.H.Host.state c.run_one.new.host in
    let before = held_by c.args.administration.now (g.T.Turns.diverted c.args.turns.now) in
    let mid = held_by l.administration (g.T.Turns.diverted l.turns) in
    let after = held_by c.run_one.new.administration (g.T.Turns.diverted c.run_one.new.turns) in
    let task = g.T.Turns.task c.args.turns.now in
    let start = g.T.Turns.left c.args.turns.now in
    let q = g.T.Turns.left l.turns in
    let later = g.T.Turns.left c.run_one.new.turns in
    let first = c.args.units.now.items in
    let us = l.units.items in
    let more = c.run_one.new.units.items in
    record {
      turned = one_turn_more (g.T.Turns.turn task) start before old first us more q later mid after now new inv.turned (subst (λ k. AddsTurn (g.T.Turns.turn k) q later mid after now new us more) inv.same_task
          (subst (λ b. GoesOn (g.T.Turns.turn (g.T.Turns.task l.turns)) (g.T.Turns.over c.run_one.new.turns) q later mid after now new us more b) c.in-Ok-true.field-0-test c.in-Ok-true.ensures.ok));
      between = c.in-Ok-true.ensures.between;
      is_open = c.in-Ok-true.ensures.open;
      order = c.in-Ok-true.ensures.order;
      answered = answered_then old now new inv.answered c.in-Ok-true.ensures.answered;
      told = tells_then old now new (calls_of first) (calls_of us) (calls_of more) inv.told c.in-Ok-true.ensures.told;
      moments = since_more (g.T.Turns.turn task) start before old (g.T.Turns.amid task) (g.T.Turns.goes task) first us q later mid now new inv.turned inv.moments
          (subst (λ k. g.T.Turns.goes k q later) inv.same_task c.run_one.ensures.goes)
          (subst (λ k. AtEachMomentOf (IsAmidNext (g.T.Turns.amid k) q later mid) now new) inv.same_task c.run_one.ensures.any_moment);
      no_fault = no_fault_then old now new inv.no_fault c.in-Ok-true.ensures.no_fault;
      same_task = c.in-Ok-true.ensures.task ∙ inv.same_task;
      goes = goes_then (g.T.Turns.goes task) start q later inv.goes (goes_once (g.T.Turns.goes task) q later (subst (λ k. g.T.Turns.goes k q later) inv.same_task c.run_one.ensures.goes));
      watched = c.what_is_told_in_turn.ensures.added old now c.args.watcher.now l.watcher c.run_one.new.watcher first us more inv.watched inv.told inv.answered c.run_one.ensures.watched;
    }

pub loop-unit-smaller : goal.loop-unit-smaller
loop-unit-smaller g c = c.in-Ok-true.ensures.fewer c.in-Ok-true.field-0-test

pub returns-in-Ok-false-clause-turned : goal.returns-in-Ok-false-clause-turned
returns-in-Ok-false-clause-turned g c =
    let l = c.loop-unit in
    let inv = l.invariant in
    let old = g.H.Host.state c.args.host.now in
    let now = g.H.Host.state l.host in
    let new = g.H.Host.state c.run_one.new.host in
    let before = held_by c.args.administration.now (g.T.Turns.diverted c.args.turns.now) in
    let mid = held_by l.administration (g.T.Turns.diverted l.turns) in
    let after = held_by c.run_one.new.administration (g.T.Turns.diverted c.run_one.new.turns) in
    let task = g.T.Turns.task c.args.turns.now in
    let start = g.T.Turns.left c.args.turns.now in
    let q = g.T.Turns.left l.turns in
    let later = g.T.Turns.left c.run_one.new.turns in
    let first = c.args.units.now.items in
    let us = l.units.items in
    let more = c.run_one.new.units.items in
    all_turned (g.T.Turns.turn task) start before old (g.T.Turns.over c.run_one.new.turns) first us more q mid after now new inv.turned (subst (λ b. GoesOn (g.T.Turns.turn (g.T.Turns.task l.turns)) (g.T.Turns.over c.run_one.new.turns) q later mid after now new us more b) c.in-Ok-false.field-0-test c.in-Ok-false.ensures.ok)

pub returns-in-Ok-false-clause-answered : goal.returns-in-Ok-false-clause-answered
returns-in-Ok-false-clause-answered g c =
    let l = c.loop-unit in
    let inv = l.invariant in
    let old = g.H.Host.state c.args.host.now in
    let now = g.H.Host.state l.host in
    let new = g.H.Host.state c.run_one.new.host in
    let before = held_by c.args.administration.now (g.T.Turns.diverted c.args.turns.now) in
    let mid = held_by l.administration (g.T.Turns.diverted l.turns) in
    let after = held_by c.run_one.new.administration (g.T.Turns.diverted c.run_one.new.turns) in
    let task = g.T.Turns.task c.args.turns.now in
    let start = g.T.Turns.left c.args.turns.now in
    let q = g.T.Turns.left l.turns in
    let later = g.T.Turns.left c.run_one.new.turns in
    let first = c.args.units.now.items in
    let us = l.units.items in
    let more = c.run_one.new.units.items in
    answered_then old now new inv.answered c.in-Ok-false.ensures.answered

pub returns-in-Ok-false-clause-told : goal.returns-in-Ok-false-clause-told
returns-in-Ok-false-clause-told g c =
    let l = c.loop-unit in
    let inv = l.invariant in
    let old = g.H.Host.state c.args.host.now in
    let now = g.H.Host.state l.host in
    let new = g.H.Host.state c.run_one.new.host in
    let before = held_by c.args.administration.now (g.T.Turns.diverted c.args.turns.now) in
    let mid = held_by l.administration (g.T.Turns.diverted l.turns) in
    let after = held_by c.run_one.new.administration (g.T.Turns.diverted c.run_one.new.turns) in
    let task = g.T.Turns.task c.args.turns.now in
    let start = g.T.Turns.left c.args.turns.now in
    let q = g.T.Turns.left l.turns in
    let later = g.T.Turns.left c.run_one.new.turns in
    let first = c.args.units.now.items in
    let us = l.units.items in
    let more = c.run_one.new.units.items in
    tells_then old now new (calls_of first) (calls_of us) (calls_of more) inv.told c.in-Ok-false.ensures.told

pub returns-in-Ok-false-clause-any_moment : goal.returns-in-Ok-false-clause-any_moment
returns-in-Ok-false-clause-any_moment g c =
    let l = c.loop-unit in
    let inv = l.invariant in
    let old = g.H.Host.state c.args.host.now in
    let now = g.H.Host.state l.host in
    let new = g.H.Host.state c.run_one.new.host in
    let before = held_by c.args.administration.now (g.T.Turns.diverted c.args.turns.now) in
    let mid = held_by l.administration (g.T.Turns.diverted l.turns) in
    let after = held_by c.run_one.new.administration (g.T.Turns.diverted c.run_one.new.turns) in
    let task = g.T.Turns.task c.args.turns.now in
    let start = g.T.Turns.left c.args.turns.now in
    let q = g.T.Turns.left l.turns in
    let later = g.T.Turns.left c.run_one.new.turns in
    let first = c.args.units.now.items in
    let us = l.units.items in
    let more = c.run_one.new.units.items in
    since_more (g.T.Turns.turn task) start before old (g.T.Turns.amid task) (g.T.Turns.goes task) first us q later mid now new inv.turned inv.moments
    (subst (λ k. g.T.Turns.goes k q later) inv.same_task c.run_one.ensures.goes)
    (subst (λ k. AtEachMomentOf (IsAmidNext (g.T.Turns.amid k) q later mid) now new) inv.same_task c.run_one.ensures.any_moment)

pub returns-in-Ok-false-clause-no_fault : goal.returns-in-Ok-false-clause-no_fault
returns-in-Ok-false-clause-no_fault g c =
    let l = c.loop-unit in
    let inv = l.invariant in
    let old = g.H.Host.state c.args.host.now in
    let now = g.H.Host.state l.host in
    let new = g.H.Host.state c.run_one.new.host in
    let before = held_by c.args.administration.now (g.T.Turns.diverted c.args.turns.now) in
    let mid = held_by l.administration (g.T.Turns.diverted l.turns) in
    let after = held_by c.run_one.new.administration (g.T.Turns.diverted c.run_one.new.turns) in
    let task = g.T.Turns.task c.args.turns.now in
    let start = g.T.Turns.left c.args.turns.now in
    let q = g.T.Turns.left l.turns in
    let later = g.T.Turns.left c.run_one.new.turns in
    let first = c.args.units.now.items in
    let us = l.units.items in
    let more = c.run_one.new.units.items in
    no_fault_then old now new inv.no_fault c.in-Ok-false.ensures.no_fault

pub returns-in-Ok-false-clause-task : goal.returns-in-Ok-false-clause-task
returns-in-Ok-false-clause-task g c =
    let l = c.loop-unit in
    let inv = l.invariant in
    let old = g.H.Host.state c.args.host.now in
    let now = g.H.Host.state l.host in
    let new = g.H.Host.state c.run_one.new.host in
    let before = held_by c.args.administration.now (g.T.Turns.diverted c.args.turns.now) in
    let mid = held_by l.administration (g.T.Turns.diverted l.turns) in
    let after = held_by c.run_one.new.administration (g.T.Turns.diverted c.run_one.new.turns) in
    let task = g.T.Turns.task c.args.turns.now in
    let start = g.T.Turns.left c.args.turns.now in
    let q = g.T.Turns.left l.turns in
    let later = g.T.Turns.left c.run_one.new.turns in
    let first = c.args.units.now.items in
    let us = l.units.items in
    let more = c.run_one.new.units.items in
    c.in-Ok-false.ensures.task ∙ inv.same_task

pub returns-in-Ok-false-clause-goes : goal.returns-in-Ok-false-clause-goes
returns-in-Ok-false-clause-goes g c =
    let l = c.loop-unit in
    let inv = l.invariant in
    let old = g.H.Host.state c.args.host.now in
    let now = g.H.Host.state l.host in
    let new = g.H.Host.state c.run_one.new.host in
    let before = held_by c.args.administration.now (g.T.Turns.diverted c.args.turns.now) in
    let mid = held_by l.administration (g.T.Turns.diverted l.turns) in
    let after = held_by c.run_one.new.administration (g.T.Turns.diverted c.run_one.new.turns) in
    let task = g.T.Turns.task c.args.turns.now in
    let start = g.T.Turns.left c.args.turns.now in
    let q = g.T.Turns.left l.turns in
    let later = g.T.Turns.left c.run_one.new.turns in
    let first = c.args.units.now.items in
    let us = l.units.items in
    let more = c.run_one.new.units.items in
    goes_then (g.T.Turns.goes task) start q later inv.goes (goes_once (g.T.Turns.goes task) q later (subst (λ k. g.T.Turns.goes k q later) inv.same_task c.run_one.ensures.goes))

pub returns-in-Ok-false-clause-watched : goal.returns-in-Ok-false-clause-watched
returns-in-Ok-false-clause-watched g c =
    let l = c.loop-unit in
    let inv = l.invariant in
    let old = g.H.Host.state c.args.host.now in
    let now = g.H.Host.state l.host in
    let new = g.H.Host.state c.run_one.new.host in
    let before = held_by c.args.administration.now (g.T.Turns.diverted c.args.turns.now) in
    let mid = held_by l.administration (g.T.Turns.diverted l.turns) in
    let after = held_by c.run_one.new.administration (g.T.Turns.diverted c.run_one.new.turns) in
    let task = g.T.Turns.task c.args.turns.now in
    let start = g.T.Turns.left c.args.turns.now in
    let q = g.T.Turns.left l.turns in
    let later = g.T.Turns.left c.run_one.new.turns in
    let first = c.args.units.now.items in
    let us = l.units.items in
    let more = c.run_one.new.units.items in
    c.what_is_told_in_turn.ensures.added old now c.args.watcher.now l.watcher c.run_one.new.watcher first us more inv.watched inv.told inv.answered c.run_one.ensures.watched

pub returns-in-Err-clause-stopped : goal.returns-in-Err-clause-stopped
returns-in-Err-clause-stopped g c =
    let l = c.loop-unit in
    let inv = l.invariant in
    let old = g.H.Host.state c.args.host.now in
    let now = g.H.Host.state l.host in
    let new = g.H.Host.state c.run_one.new.host in
    let before = held_by c.args.administration.now (g.T.Turns.diverted c.args.turns.now) in
    let mid = held_by l.administration (g.T.Turns.diverted l.turns) in
    let after = held_by c.run_one.new.administration (g.T.Turns.diverted c.run_one.new.turns) in
    let task = g.T.Turns.task c.args.turns.now in
    let start = g.T.Turns.left c.args.turns.now in
    let q = g.T.Turns.left l.turns in
    let later = g.T.Turns.left c.run_one.new.turns in
    let first = c.args.units.now.items in
    let us = l.units.items in
    let more = c.run_one.new.units.items in
    stopped (g.T.Turns.turn task) start before old (g.T.Turns.amid task) (g.T.Turns.called task) first us more q later mid now new c.in-Err.unit inv.turned c.in-Err.ensures.err
    (subst (λ k. AtEachMomentOf (IsAmidNext (g.T.Turns.amid k) q later mid) now new) inv.same_task c.run_one.ensures.any_moment)
    (subst (λ k. IsBrokenNext (g.T.Turns.called k) q later mid now new c.in-Err.unit) inv.same_task c.in-Err.ensures.broken_off)

pub returns-in-Err-clause-told_stopped : goal.returns-in-Err-clause-told_stopped
returns-in-Err-clause-told_stopped g c =
    let l = c.loop-unit in
    let inv = l.invariant in
    let old = g.H.Host.state c.args.host.now in
    let now = g.H.Host.state l.host in
    let new = g.H.Host.state c.run_one.new.host in
    let before = held_by c.args.administration.now (g.T.Turns.diverted c.args.turns.now) in
    let mid = held_by l.administration (g.T.Turns.diverted l.turns) in
    let after = held_by c.run_one.new.administration (g.T.Turns.diverted c.run_one.new.turns) in
    let task = g.T.Turns.task c.args.turns.now in
    let start = g.T.Turns.left c.args.turns.now in
    let q = g.T.Turns.left l.turns in
    let later = g.T.Turns.left c.run_one.new.turns in
    let first = c.args.units.now.items in
    let us = l.units.items in
    let more = c.run_one.new.units.items in
    subst (λ (list : List AUnit). TellsAll old new (calls_of first) (calls_of list ++ c.in-Err.unit.calls.items)) (sym {A = List AUnit} c.in-Err.ensures.err)
    (tells_last old now new (calls_of first) (calls_of us) c.in-Err.unit.calls.items inv.told c.in-Err.ensures.told_broken)

pub returns-in-Err-clause-any_moment : goal.returns-in-Err-clause-any_moment
returns-in-Err-clause-any_moment g c =
    let l = c.loop-unit in
    let inv = l.invariant in
    let old = g.H.Host.state c.args.host.now in
    let now = g.H.Host.state l.host in
    let new = g.H.Host.state c.run_one.new.host in
    let before = held_by c.args.administration.now (g.T.Turns.diverted c.args.turns.now) in
    let mid = held_by l.administration (g.T.Turns.diverted l.turns) in
    let after = held_by c.run_one.new.administration (g.T.Turns.diverted c.run_one.new.turns) in
    let task = g.T.Turns.task c.args.turns.now in
    let start = g.T.Turns.left c.args.turns.now in
    let q = g.T.Turns.left l.turns in
    let later = g.T.Turns.left c.run_one.new.turns in
    let first = c.args.units.now.items in
    let us = l.units.items in
    let more = c.run_one.new.units.items in
    since_more (g.T.Turns.turn task) start before old (g.T.Turns.amid task) (g.T.Turns.goes task) first us q later mid now new inv.turned inv.moments
    (subst (λ k. g.T.Turns.goes k q later) inv.same_task c.run_one.ensures.goes)
    (subst (λ k. AtEachMomentOf (IsAmidNext (g.T.Turns.amid k) q later mid) now new) inv.same_task c.run_one.ensures.any_moment)

pub returns-in-Err-clause-counts : goal.returns-in-Err-clause-counts
returns-in-Err-clause-counts g c =
    let l = c.loop-unit in
    let inv = l.invariant in
    let old = g.H.Host.state c.args.host.now in
    let now = g.H.Host.state l.host in
    let new = g.H.Host.state c.run_one.new.host in
    let before = held_by c.args.administration.now (g.T.Turns.diverted c.args.turns.now) in
    let mid = held_by l.administration (g.T.Turns.diverted l.turns) in
    let after = held_by c.run_one.new.administration (g.T.Turns.diverted c.run_one.new.turns) in
    let task = g.T.Turns.task c.args.turns.now in
    let start = g.T.Turns.left c.args.turns.now in
    let q = g.T.Turns.left l.turns in
    let later = g.T.Turns.left c.run_one.new.turns in
    let first = c.args.units.now.items in
    let us = l.units.items in
    let more = c.run_one.new.units.items in
    counts_from c.in-Err.unit.reply old now new inv.no_fault c.in-Err.ensures.counts

pub returns-in-Err-clause-goes : goal.returns-in-Err-clause-goes
returns-in-Err-clause-goes g c =
    let l = c.loop-unit in
    let inv = l.invariant in
    let old = g.H.Host.state c.args.host.now in
    let now = g.H.Host.state l.host in
    let new = g.H.Host.state c.run_one.new.host in
    let before = held_by c.args.administration.now (g.T.Turns.diverted c.args.turns.now) in
    let mid = held_by l.administration (g.T.Turns.diverted l.turns) in
    let after = held_by c.run_one.new.administration (g.T.Turns.diverted c.run_one.new.turns) in
    let task = g.T.Turns.task c.args.turns.now in
    let start = g.T.Turns.left c.args.turns.now in
    let q = g.T.Turns.left l.turns in
    let later = g.T.Turns.left c.run_one.new.turns in
    let first = c.args.units.now.items in
    let us = l.units.items in
    let more = c.run_one.new.units.items in
    goes_then (g.T.Turns.goes task) start q later inv.goes (goes_once (g.T.Turns.goes task) q later (subst (λ k. g.T.Turns.goes k q later) inv.same_task c.run_one.ensures.goes))

pub returns-in-Err-clause-watched : goal.returns-in-Err-clause-watched
returns-in-Err-clause-watched g c =
    let l = c.loop-unit in
    let inv = l.invariant in
    let old = g.H.Host.state c.args.host.now in
    let now = g.H.Host.state l.host in
    let new = g.H.Host.state c.run_one.new.host in
    let before = held_by c.args.administration.now (g.T.Turns.diverted c.args.turns.now) in
    let mid = held_by l.administration (g.T.Turns.diverted l.turns) in
    let after = held_by c.run_one.new.administration (g.T.Turns.diverted c.run_one.new.turns) in
    let task = g.T.Turns.task c.args.turns.now in
    let start = g.T.Turns.left c.args.turns.now in
    let q = g.T.Turns.left l.turns in
    let later = g.T.Turns.left c.run_one.new.turns in
    let first = c.args.units.now.items in
    let us = l.units.items in
    let more = c.run_one.new.units.items in
    c.what_is_told_in_turn.ensures.added old now c.args.watcher.now l.watcher c.run_one.new.watcher first us more inv.watched inv.told inv.answered c.run_one.ensures.watched
