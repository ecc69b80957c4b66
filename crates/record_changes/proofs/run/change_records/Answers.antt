use Rattle.std.proofs.Common.{◌++◌, List, ap, subst, sym, ◌∙◌}
use Rattle.unit_reports.specs.Held.{held_by}
use Rattle.unit_reports.specs.declared.report.Unit.{Unit as AUnit}
use Rattle.unit_runs.specs.Turns.{GoesTo, TurnsTo}
use Rattle.unit_runs.proofs.Going.{since_wider}
use Rattle.record_changes.specs.Taking.{left_of}
use Rattle.record_changes.specs.Turns.{IsAmidTurn, IsTurn}
use Rattle.record_changes.proofs.Turned.{since_next_start, stopped_silent, turns_silent}
use Rattle.record_changes.proofs.run.change_records.Goals as goal

pub returns-in-Ok-clause-part : goal.returns-in-Ok-clause-part
returns-in-Ok-clause-part g c =
    let all = c.in-Ok.ensures.turned in
    let after = held_by c.run_units.new.administration c.run_units.new.turns.diversions.now in
    let end = g.H.Host.state c.run_units.new.host in
    record {
      left = all.q;
      after = after;
      end = end;
      turns =
          subst (λ (us : List AUnit). TurnsTo IsTurn c.args.changes.items (held_by c.args.administration.now c.args.diversions.now) (g.H.Host.state c.args.host.now) us all.q after end)
          (sym (all.turned.are ∙ ap (λ (us : List AUnit). us ++ all.turned.turned) c.new-units.ensures.items)) all.turned.come;
      since = since_next_start all.q all.q after end;
      broken = tt;
    }

pub returns-in-Ok-clause-any_moment : goal.returns-in-Ok-clause-any_moment
returns-in-Ok-clause-any_moment g c =
    since_wider IsTurn c.args.changes.items (held_by c.args.administration.now c.args.diversions.now) (g.H.Host.state c.args.host.now) IsAmidTurn (λ later. GoesTo (λ left behind. Unit {0}) later (left_of c.run_units.new.turns)) (λ later. Unit {0}) (λ later goes. tt)
    (g.H.Host.state c.run_units.new.host) c.run_units.ensures.any_moment

pub returns-in-Ok-clause-silent : goal.returns-in-Ok-clause-silent
returns-in-Ok-clause-silent g c =
    let all = c.in-Ok.ensures.turned in
    turns_silent c.args.changes.items (held_by c.args.administration.now c.args.diversions.now) (g.H.Host.state c.args.host.now) all.turned.turned all.q
    (held_by c.run_units.new.administration c.run_units.new.turns.diversions.now) (g.H.Host.state c.run_units.new.host) all.turned.come

pub returns-clause-any_moment : goal.returns-clause-any_moment
returns-clause-any_moment g c =
    since_wider IsTurn c.args.changes.items (held_by c.args.administration.now c.args.diversions.now) (g.H.Host.state c.args.host.now) IsAmidTurn (λ later. GoesTo (λ left behind. Unit {0}) later (left_of c.run_units.new.turns)) (λ later. Unit {0}) (λ later goes. tt)
    (g.H.Host.state c.run_units.new.host) c.run_units.ensures.any_moment

pub returns-clause-silent : goal.returns-clause-silent
returns-clause-silent g c =
    stopped_silent c.args.changes.items (held_by c.args.administration.now c.args.diversions.now) (g.H.Host.state c.args.host.now) c.new-units.result.items c.run_units.new.units.items
    (left_of c.run_units.new.turns) (g.H.Host.state c.run_units.new.host) c.in-Err.unit c.in-Err.ensures.stopped
