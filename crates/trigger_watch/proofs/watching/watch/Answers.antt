use Rattle.std.proofs.Common.{◌∙◌, List, ap, rules}
use Rattle.host_core.specs.World.{World}
use Rattle.host_core.proofs.Counted.{no_fault_then}
use Rattle.host_core.proofs.Moments.{reads_then, silent_then}
use Rattle.status_db.specs.Order.{names_of}
use Rattle.status_records.specs.declared.record.Record.{Record}
use Rattle.trigger_interests.specs.Interests.{interests_of}
use Rattle.trigger_interests.specs.declared.interests.Interest.{Interest}
use Rattle.trigger_watch.specs.Hits.{hits_of}
use Rattle.trigger_watch.specs.Watch.{installed}
use Rattle.trigger_watch.proofs.watching.watch.Goals as goal

pub returns-in-Ok : goal.returns-in-Ok
returns-in-Ok g c =
    let first = c.read_installed.ensures.looks in
    let then = c.read_recorded.ensures.looks in
    let w = (g.H.Host.state c.args.host.now).world in
    let lists = c.args.lists.now.lists in
    let by_files = c.args.by_files in
    record {
      looks = record {
        found = λ honest. record {
          before = c.in-Ok.ensures.looks.found honest ∙ ap (λ (u : World). hits_of u lists by_files c.as_slice.result.now (names_of c.records-2.result.now)) first.reads.world
              ∙ ap (λ (is : List Interest). hits_of w lists by_files is (names_of c.records-2.result.now)) (c.as_slice.ensures.value ∙ c.in_ok-interests.ensures.looks.found (then.reads.honest honest) ∙ ap (λ (rs : List Record). interests_of w (installed rs)) c.records.ensures)
              ∙ ap (λ (rs : List Record). hits_of w lists by_files (interests_of w (installed c.args.database.now.records)) (names_of rs)) c.records-2.ensures;
        };
        reads = reads_then _ _ _ first.reads then.reads;
        silent = silent_then _ _ _ first.silent then.silent;
        counts = no_fault_then _ _ _ c.in_ok-interests.ensures.looks.counts c.in-Ok.ensures.looks.counts;
      };
    }

pub returns : goal.returns
returns g c =
    let first = c.read_installed.ensures.looks in
    let then = c.read_recorded.ensures.looks in
    record {
      looks = record {
        found = search rules;
        reads = reads_then _ _ _ first.reads then.reads;
        silent = silent_then _ _ _ first.silent then.silent;
        counts = search rules;
      };
    }
