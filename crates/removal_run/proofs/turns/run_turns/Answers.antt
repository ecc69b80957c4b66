use Rattle.std.proofs.Common.{List, subst}
use Rattle.host_core.specs.Host.{Since}
use Rattle.relation_index.specs.declared.package.Package.{Package}
use Rattle.unit_reports.specs.Held.{held_by}
use Rattle.unit_runs.specs.Turns as runs
use Rattle.unit_runs.specs.Turns.{GoesTo, HaveAllTurned}
use Rattle.unit_runs.proofs.Going.{since_turns_start}
use Rattle.removal_run.specs.Taking.{IsOver, names_of}
use Rattle.removal_run.specs.Turns.{HasCalledNext, IsAmidTurn, IsTurn}
use Rattle.removal_run.proofs.Replies.{broken_by}
use Rattle.removal_run.proofs.Turning.{since_any, stopped_here, turned_others}
use Rattle.removal_run.proofs.turns.run_turns.Goals as goal

pub returns-in-Err-clause-stopped : goal.returns-in-Err-clause-stopped
returns-in-Err-clause-stopped g c =
    stopped_here c.args.options c.args.packages c.args.waiting.items (held_by c.args.administration.now c.args.diversions.now) (g.H.Host.state c.args.host.now) c.args.units.now.items c.no_memory.result (broken_by _ c.no_memory.result.reply c.no_memory.ensures.reply) c.no_memory.ensures.touched c.no_memory.ensures.told

pub returns-in-Err-clause-any_moment : goal.returns-in-Err-clause-any_moment
returns-in-Err-clause-any_moment g c = since_turns_start (IsTurn c.args.options c.args.packages) c.args.waiting.items (held_by c.args.administration.now c.args.diversions.now) (g.H.Host.state c.args.host.now) (λ left behind. IsAmidTurn c.args.options c.args.packages left) (λ later. Unit {0}) tt

pub returns-in-Some-clause-others : goal.returns-in-Some-clause-others
returns-in-Some-clause-others g c =
    let after = held_by c.run_units.new.administration c.run_units.new.turns.diversions.now in
    let new = g.H.Host.state c.run_units.new.host in
    let all = subst (λ (ps : List Package). HaveAllTurned (IsTurn c.args.options ps) (IsOver c.run_units.new.turns) c.args.waiting.items (held_by c.args.administration.now c.args.diversions.now) (g.H.Host.state c.args.host.now) c.args.units.now.items c.run_units.new.units.items after new) c.in-Ok.ensures.stated c.in-Ok-run_units.ensures.turned in
    turned_others c.args.options c.args.packages c.args.waiting.items all.q (held_by c.args.administration.now c.args.diversions.now) after (g.H.Host.state c.args.host.now) new c.args.units.now.items c.run_units.new.units.items all.turned

pub returns-in-Some-clause-any_moment : goal.returns-in-Some-clause-any_moment
returns-in-Some-clause-any_moment g c =
    since_any c.args.options c.args.packages (λ later. GoesTo (λ left behind. Unit {0}) later (names_of c.run_units.new.turns)) c.args.waiting.items (held_by c.args.administration.now c.args.diversions.now) (g.H.Host.state c.args.host.now) (g.H.Host.state c.run_units.new.host)
    (subst (λ (ps : List Package). Since (runs.IsAmidTurns (IsTurn c.args.options ps) (λ left behind. IsAmidTurn c.args.options ps left) (λ later. GoesTo (λ left behind. Unit {0}) later (names_of c.run_units.new.turns)) c.args.waiting.items (held_by c.args.administration.now c.args.diversions.now) (g.H.Host.state c.args.host.now)) (g.H.Host.state c.args.host.now) (g.H.Host.state c.run_units.new.host)) c.in-Ok.ensures.stated c.run_units.ensures.any_moment)

pub returns-in-Err-run_units-clause-stopped : goal.returns-in-Err-run_units-clause-stopped
returns-in-Err-run_units-clause-stopped g c =
    let later = names_of c.run_units.new.turns in (
      later,
      subst (λ (ps : List Package). runs.HasStopped (IsTurn c.args.options ps) (λ left behind. IsAmidTurn c.args.options ps left) (λ left behind. HasCalledNext c.args.options ps left) c.args.waiting.items (held_by c.args.administration.now c.args.diversions.now) (g.H.Host.state c.args.host.now) c.args.units.now.items c.run_units.new.units.items later (g.H.Host.state c.run_units.new.host) c.in-Err-run_units.unit)
          c.in-Ok.ensures.stated c.in-Err-run_units.ensures.stopped,
    )

pub returns-in-Err-run_units-clause-any_moment : goal.returns-in-Err-run_units-clause-any_moment
returns-in-Err-run_units-clause-any_moment g c =
    since_any c.args.options c.args.packages (λ later. GoesTo (λ left behind. Unit {0}) later (names_of c.run_units.new.turns)) c.args.waiting.items (held_by c.args.administration.now c.args.diversions.now) (g.H.Host.state c.args.host.now) (g.H.Host.state c.run_units.new.host)
    (subst (λ (ps : List Package). Since (runs.IsAmidTurns (IsTurn c.args.options ps) (λ left behind. IsAmidTurn c.args.options ps left) (λ later. GoesTo (λ left behind. Unit {0}) later (names_of c.run_units.new.turns)) c.args.waiting.items (held_by c.args.administration.now c.args.diversions.now) (g.H.Host.state c.args.host.now)) (g.H.Host.state c.args.host.now) (g.H.Host.state c.run_units.new.host)) c.in-Ok.ensures.stated c.run_units.ensures.any_moment)
