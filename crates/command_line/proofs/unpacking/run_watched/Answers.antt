use Rattle.std.proofs.Common.{◌≡◌, ◌∙◌, Option, ap, subst, sym}
use Rattle.std.specs.Prelude.{IsNone, is_some}
use Rattle.unit_reports.specs.Held.{held_by}
use Rattle.unit_reports.specs.declared.report.Unit.{Unit as AUnit}
use Rattle.command_line.specs.Endings.{HasEnded}
use Rattle.command_line.specs.Printing.{last_in, units_of}
use Rattle.command_line.specs.Triggering.{HasTriggeredBehind, last_behind, touched_of}
use Rattle.command_line.specs.declared.triggering.Triggering.{Triggering}
use Rattle.command_line.proofs.unpacking.run_watched.Goals as goal

pub trigger_behind-triggered-requires : goal.trigger_behind-triggered-requires
trigger_behind-triggered-requires g c = c.in_ok-done.ensures.closes ∙ sym (ap (λ (last : Option AUnit). is_some last) c.last-last.ensures)

pub end-left-requires : goal.end-left-requires
end-left-requires g c = λ none. c.trigger_behind-triggered.ensures.open (subst (λ (last : Option AUnit). IsNone last) c.last_behind.ensures none)

pub returns-clause-done : goal.returns-clause-done
returns-clause-done g c =
    let mid = c.run_trees.new.session in
    let behind = c.trigger_behind-triggered.new.session in
    let came = c.trigger_behind-triggered.result in
    let done = g.S.Opened.Host.state mid.host in
    let state = g.S.Opened.Host.state behind.host in
    let held_mid = held_by mid.administration mid.diversions in
    let held_behind = held_by behind.administration behind.diversions in
    let touched = touched_of (units_of c.in_ok-done.done) in
    record {
      mid = held_mid;
      done = done;
      ran = c.in_ok-done.ensures.done;
      after = held_behind;
      behind = state;
      triggered = subst (λ (t : Triggering). HasTriggeredBehind t c.args.known.now (last_in c.in_ok-done.done) touched came held_mid held_behind done state) c.triggering_for-triggering.ensures
          (subst (λ (last : Option AUnit). HasTriggeredBehind c.triggering_for-triggering.result c.args.known.now last touched came held_mid held_behind done state) c.last-last.ensures (c.trigger_behind-triggered.ensures.triggered touched c.touched_in-touched.ensures));
      ending = subst (λ (last : Option AUnit). HasEnded last behind.administration.database c.end-left.result state (g.S.Opened.Host.state c.end-left.new.session.host))
          (c.last_behind.ensures ∙ ap (λ (last : Option AUnit). last_behind last came) c.last-last.ensures) c.end-left.ensures;
    }

pub returns-clause-watched : goal.returns-clause-watched
returns-clause-watched g c = (c.run_trees.new.watcher, c.in_ok-done.ensures.watched, c.trigger_behind-triggered.ensures.watched)
