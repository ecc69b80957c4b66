use Rattle.std.proofs.Common.{◌≡◌, List, Option, subst}
use Rattle.std.specs.Prelude.{IfOk, IsNone}
use Rattle.unit_reports.specs.Held.{held_by}
use Rattle.unit_reports.specs.declared.report.Unit.{Unit as AUnit}
use Rattle.command_line.specs.Endings.{HasEnded}
use Rattle.command_line.specs.Triggering.{touched_of}
use Rattle.command_line.proofs.packages.work_watched.Goals as goal

pub end-left-requires : goal.end-left-requires
end-left-requires g c = λ none. c.trigger_behind-triggered.ensures.open (subst (λ (last : Option AUnit). IsNone last) c.last_behind.ensures none)

pub returns-clause-done : goal.returns-clause-done
returns-clause-done g c =
    let mid = c.carry_out.new.session in
    let us = c.in_ok-done.done.units.items in
    let behind = c.trigger_behind-triggered.new.session in
    record {
      mid = held_by mid.administration mid.diversions;
      done = g.H.Host.state mid.host;
      worked = c.in_ok-done.ensures.done;
      after = held_by behind.administration behind.diversions;
      behind = g.H.Host.state behind.host;
      triggered = c.trigger_behind-triggered.ensures.triggered (touched_of us) (subst (λ (l : List AUnit). IfOk c.touched_in-touched.result (λ touches. touches.items ≡ touched_of l)) c.as_slice.ensures.value c.touched_in-touched.ensures);
      ending = subst (λ (last : Option AUnit). HasEnded last behind.administration.database c.end-left.result (g.H.Host.state behind.host) (g.H.Host.state c.end-left.new.session.host)) c.last_behind.ensures c.end-left.ensures;
    }

pub returns-clause-watched : goal.returns-clause-watched
returns-clause-watched g c = (c.carry_out.new.watcher, (g.H.Host.state c.args.session.now.host, c.in_ok-done.ensures.watched), c.trigger_behind-triggered.ensures.watched)
