use Rattle.std.proofs.Common.{◌≡◌, ◌∙◌, ◌++◌, List, Option, Some, None, subst, sym, refl}
use Rattle.std.specs.Prelude.{IfOk, IsNone}
use Rattle.unit_reports.specs.Held.{held_by}
use Rattle.unit_reports.specs.declared.report.Unit.{Unit as AUnit}
use Rattle.command_line.specs.Triggering.{HasTriggeredBehind, last_behind}
use Rattle.trigger_turns.specs.Turns.{names_told, pending_owners}
use Rattle.command_line.specs.declared.triggering.Triggered.{Triggered}
use Rattle.command_line.proofs.Behind.{both_none, told_idle}
use Rattle.command_line.proofs.triggering.trigger_behind.Goals as goal

pub returns-in-None-clause-triggered : goal.returns-in-None-clause-triggered
returns-in-None-clause-triggered g c = λ touches is.
    let came : Triggered = record { noted = c.note-noted.result; processed = c.process-processed.result } in
    let old = c.args.session.now in
    let mid = c.note-noted.new.session in
    let new = c.process-processed.new.session in
    let owners = pending_owners old.administration.database.records in
    let told = subst (λ (us : List AUnit). IfOk c.with_told-names.result (λ all. all.items ≡ owners ++ names_told us)) c.as_slice.ensures.value (c.with_told-names.ensures owners c.pending_owners-first.ensures) in
    subst (λ (last : Option AUnit). HasTriggeredBehind c.args.triggering c.args.known.now last touches came (held_by old.administration old.diversions) (held_by new.administration new.diversions) (g.H.Host.state old.host) (g.H.Host.state new.host)) (sym c.in-None.is) record {
      mid = held_by mid.administration mid.diversions;
      noting = g.H.Host.state mid.host;
      noted = c.note-noted.ensures.noted touches is;
      processed = c.process-processed.ensures.processed (owners ++ names_told c.note-noted.result.units.items) told;
    }

pub returns-in-None-clause-open : goal.returns-in-None-clause-open
returns-in-None-clause-open g c = λ none.
    let came : Triggered = record { noted = c.note-noted.result; processed = c.process-processed.result } in
    let both = both_none came.noted.last came.processed.last (subst (λ (last : Option AUnit). IsNone (last_behind last came)) c.in-None.is none) in
    c.process-processed.ensures.open both.0 both.1

pub returns-in-None-clause-watched : goal.returns-in-None-clause-watched
returns-in-None-clause-watched g c = (c.note-noted.new.watcher, c.note-noted.ensures.watched, c.process-processed.ensures.watched)

pub returns-in-Some-clause-triggered : goal.returns-in-Some-clause-triggered
returns-in-Some-clause-triggered g c = λ touches is.
    let old = c.args.session.now in
    let before = held_by old.administration old.diversions in
    let begun = g.H.Host.state old.host in
    subst (λ (last : Option AUnit). HasTriggeredBehind c.args.triggering c.args.known.now last touches c.untriggered.result before before begun begun) (sym c.in-Some.is) (c.untriggered.ensures, refl, refl)

pub returns-in-Some-clause-open : goal.returns-in-Some-clause-open
returns-in-Some-clause-open g c = λ none.
    let no : IsNone (last_behind (Some c.in-Some.field-0) c.untriggered.result) = subst (λ (last : Option AUnit). IsNone (last_behind last c.untriggered.result)) c.in-Some.is none in
    cc

pub returns-in-Some-clause-watched : goal.returns-in-Some-clause-watched
returns-in-Some-clause-watched g c = told_idle _ (g.H.Host.state c.args.session.now.host) _ c.untriggered.result c.untriggered.ensures
