use Rattle.std.proofs.Common.{◌≡◌, ◌∙◌, ◌++◌, List, ap, map}
use Rattle.dpkg_session.specs.Activated.{change_by}
use Rattle.host_core.specs.World.{World}
use Rattle.record_changes.specs.declared.change.RecordChange.{RecordChange}
use Rattle.status_records.specs.declared.record.Record.{Record}
use Rattle.trigger_journal.proofs.Steps.{looks_then}
use Rattle.trigger_journal.specs.Asked.{asked_of}
use Rattle.trigger_journal.specs.declared.requests.Request.{Request}
use Rattle.trigger_watch.specs.Activations.{activations_of}
use Rattle.unit_reports.specs.Held.{Held, held_by}
use Rattle.command_line.specs.Triggering.{changes_of}
use Rattle.command_line.proofs.triggering.pending.Goals as goal

pub returns-in-Ok-clause-looks : goal.returns-in-Ok-clause-looks
returns-in-Ok-clause-looks g c = λ touches is.
    let session = c.args.session.now in
    let mid = c.activated.new.session in
    let known = c.args.known.now in
    let old = (g.H.Host.state session.host).world in
    let first = c.in-Ok.ensures.looks touches is in
    let found = c.as_slice.result.now in
    let mine = map change_by (activations_of old session.administration.database.records session.administration.lists.lists c.args.by_files known.watch touches) in
    looks_then c.with_asked.result (λ all w. all.items ≡ c.in-Ok.changes.items ++ map change_by (asked_of w mid.administration.database.records found))
    (λ changes w. changes.items ≡ changes_of w (held_by session.administration session.diversions) c.args.by_files known touches)
    (g.H.Host.state session.host) (g.H.Host.state mid.host) (g.H.Host.state c.with_asked.new.session.host) first.reads first.silent first.counts (c.with_asked.ensures.looks)
    (λ h all more. more
    ∙ ap (λ (l : List RecordChange). l ++ map change_by (asked_of (g.H.Host.state mid.host).world mid.administration.database.records found)) (first.found h)
    ∙ ap (λ (w : World). mine ++ map change_by (asked_of w mid.administration.database.records found)) first.reads.world
    ∙ ap (λ (held : Held). mine ++ map change_by (asked_of old held.records.records found)) c.in-Ok.ensures.held
    ∙ ap (λ (l : List Request). mine ++ map change_by (asked_of old session.administration.database.records l)) c.as_slice.ensures.value)
