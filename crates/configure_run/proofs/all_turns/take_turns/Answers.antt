use Rattle.std.proofs.Common.{ap, subst}
use Rattle.diversions.specs.Diverted.{Diverted}
use Rattle.held_administration.specs.Open.{IsOpen}
use Rattle.configure_run.specs.Turns.{HaveTurned}
use Rattle.dependency_sets.specs.Sets.{has}
use Rattle.unit_reports.specs.Held.{held_by}
use Rattle.configure_run.specs.Taking.{Task}
use Rattle.configure_run.proofs.AllTurns.{are_over, since_any, stop_of}
use Rattle.configure_run.proofs.Others.{turns_leave}
use Rattle.configure_run.proofs.all_turns.take_turns.Goals as goal

pub returns-in-Some-clause-ok : goal.returns-in-Some-clause-ok
returns-in-Some-clause-ok g c =
    let over = are_over c.args.options c.args.silent.items c.args.queue (held_by c.args.administration.now c.args.diversions.now) (g.H.Host.state c.args.host.now) c.args.units.now.items c.run_units.new.units.items
    (held_by c.run_units.new.administration c.run_units.new.turns.diversions.now) (g.H.Host.state c.run_units.new.host) c.run_units.new.turns c.in-Some.left (ap (λ (k : Task). k.options) c.in-Ok.ensures.task) (ap (λ (k : Task). k.silent) c.in-Ok.ensures.task) c.in-Some.is c.in-Ok.ensures.turned in
    subst (λ (d : Diverted). HaveTurned c.args.options (has c.args.silent.items) c.args.queue (held_by c.args.administration.now c.args.diversions.now) (g.H.Host.state c.args.host.now) c.args.units.now.items c.run_units.new.units.items c.in-Some.left
    (held_by c.run_units.new.administration d) (g.H.Host.state c.run_units.new.host)) (ap (λ (k : Task). k.diverted) c.in-Ok.ensures.task) over.turned

pub returns-in-Some-clause-open : goal.returns-in-Some-clause-open
returns-in-Some-clause-open g c = subst (λ (d : Diverted). IsOpen d.ways c.run_units.new.administration) (ap (λ (k : Task). k.diverted) c.in-Ok.ensures.task) c.in-Ok.ensures.open

pub returns-in-Some-clause-ended : goal.returns-in-Some-clause-ended
returns-in-Some-clause-ended g c = (are_over c.args.options c.args.silent.items c.args.queue (held_by c.args.administration.now c.args.diversions.now) (g.H.Host.state c.args.host.now) c.args.units.now.items c.run_units.new.units.items
    (held_by c.run_units.new.administration c.run_units.new.turns.diversions.now) (g.H.Host.state c.run_units.new.host) c.run_units.new.turns c.in-Some.left (ap (λ (k : Task). k.options) c.in-Ok.ensures.task) (ap (λ (k : Task). k.silent) c.in-Ok.ensures.task) c.in-Some.is c.in-Ok.ensures.turned).next

pub returns-in-Some-clause-none_left : goal.returns-in-Some-clause-none_left
returns-in-Some-clause-none_left g c = (are_over c.args.options c.args.silent.items c.args.queue (held_by c.args.administration.now c.args.diversions.now) (g.H.Host.state c.args.host.now) c.args.units.now.items c.run_units.new.units.items
    (held_by c.run_units.new.administration c.run_units.new.turns.diversions.now) (g.H.Host.state c.run_units.new.host) c.run_units.new.turns c.in-Some.left (ap (λ (k : Task). k.options) c.in-Ok.ensures.task) (ap (λ (k : Task). k.silent) c.in-Ok.ensures.task) c.in-Some.is c.in-Ok.ensures.turned).none_left

pub returns-in-Some-clause-packages : goal.returns-in-Some-clause-packages
returns-in-Some-clause-packages g c =
    let over = are_over c.args.options c.args.silent.items c.args.queue (held_by c.args.administration.now c.args.diversions.now) (g.H.Host.state c.args.host.now) c.args.units.now.items c.run_units.new.units.items
    (held_by c.run_units.new.administration c.run_units.new.turns.diversions.now) (g.H.Host.state c.run_units.new.host) c.run_units.new.turns c.in-Some.left (ap (λ (k : Task). k.options) c.in-Ok.ensures.task) (ap (λ (k : Task). k.silent) c.in-Ok.ensures.task) c.in-Some.is c.in-Ok.ensures.turned in
    (turns_leave c.args.options (has c.args.silent.items) c.args.queue (held_by c.args.administration.now c.args.diversions.now) (g.H.Host.state c.args.host.now) over.turned.turned c.in-Some.left
    (held_by c.run_units.new.administration c.run_units.new.turns.diversions.now) (g.H.Host.state c.run_units.new.host) over.turned.come).packages

pub returns-in-Some-clause-others : goal.returns-in-Some-clause-others
returns-in-Some-clause-others g c =
    let over = are_over c.args.options c.args.silent.items c.args.queue (held_by c.args.administration.now c.args.diversions.now) (g.H.Host.state c.args.host.now) c.args.units.now.items c.run_units.new.units.items
    (held_by c.run_units.new.administration c.run_units.new.turns.diversions.now) (g.H.Host.state c.run_units.new.host) c.run_units.new.turns c.in-Some.left (ap (λ (k : Task). k.options) c.in-Ok.ensures.task) (ap (λ (k : Task). k.silent) c.in-Ok.ensures.task) c.in-Some.is c.in-Ok.ensures.turned in
    (turns_leave c.args.options (has c.args.silent.items) c.args.queue (held_by c.args.administration.now c.args.diversions.now) (g.H.Host.state c.args.host.now) over.turned.turned c.in-Some.left
    (held_by c.run_units.new.administration c.run_units.new.turns.diversions.now) (g.H.Host.state c.run_units.new.host) over.turned.come).others

pub returns-in-Some-clause-any_moment : goal.returns-in-Some-clause-any_moment
returns-in-Some-clause-any_moment g c = since_any c.args.options (has c.args.silent.items) c.args.queue (held_by c.args.administration.now c.args.diversions.now) (g.H.Host.state c.args.host.now) _ (g.H.Host.state c.run_units.new.host) c.run_units.ensures.any_moment

pub returns-in-Err-clause-err : goal.returns-in-Err-clause-err
returns-in-Err-clause-err g c =
    stop_of c.args.options (has c.args.silent.items) c.args.queue (held_by c.args.administration.now c.args.diversions.now) (g.H.Host.state c.args.host.now) c.args.units.now.items c.run_units.new.units.items _ (g.H.Host.state c.run_units.new.host) c.in-Err.unit c.in-Err.ensures.stopped

pub returns-in-Err-clause-any_moment : goal.returns-in-Err-clause-any_moment
returns-in-Err-clause-any_moment g c = since_any c.args.options (has c.args.silent.items) c.args.queue (held_by c.args.administration.now c.args.diversions.now) (g.H.Host.state c.args.host.now) _ (g.H.Host.state c.run_units.new.host) c.run_units.ensures.any_moment
