use Rattle.std.proofs.Common.{◌≡◌, ◌∙◌, List, ap}
use Rattle.host_core.specs.World.{World}
use Rattle.status_records.specs.declared.record.Record.{Record}
use Rattle.trigger_interests.specs.Interests.{interests_of}
use Rattle.trigger_watch.specs.Activations.{activations_by}
use Rattle.trigger_watch.specs.Watch.{installed}
use Rattle.trigger_journal.specs.Asked.{asked_among, asked_of}
use Rattle.trigger_journal.specs.declared.requests.Request.{Request}
use Rattle.trigger_journal.proofs.Steps.{looks_then}
use Rattle.trigger_journal.proofs.asking.read_asked.Goals as goal

pub returns : goal.returns
returns g c =
    let first = c.read_requests.ensures.looks in
    let old = (g.H.Host.state c.args.host.now).world in
    let found = c.args.found.now in
    let now = c.as_slice.result.now in
    let records = c.records.result.now in
    record {
      looks = looks_then c.read_asked_by.result (λ asked w. asked.items ≡ activations_by (asked_among found now (interests_of w (installed records)))) (λ asked w. asked.items ≡ asked_of w c.args.database.now.records found)
          (g.H.Host.state c.args.host.now) (g.H.Host.state c.read_requests.new.host) (g.H.Host.state c.read_asked_by.new.host) first.reads first.silent c.in_ok-now.ensures.looks.counts c.read_asked_by.ensures.looks
          (λ h asked is. is
          ∙ ap (λ (w : World). activations_by (asked_among found now (interests_of w (installed records)))) first.reads.world
          ∙ ap (λ (rs : List Record). activations_by (asked_among found now (interests_of old (installed rs)))) c.records.ensures
          ∙ ap (λ (l : List Request). activations_by (asked_among found l (interests_of old (installed c.args.database.now.records)))) (c.as_slice.ensures.value ∙ c.in_ok-now.ensures.looks.found h));
    }
