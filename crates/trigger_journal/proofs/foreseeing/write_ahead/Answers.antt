use Rattle.std.proofs.Common.{◌∙◌, List, ap, inr}
use Rattle.host_core.proofs.Moments.{reads_then}
use Rattle.host_core.specs.World.{World}
use Rattle.status_records.specs.declared.record.Record.{Record}
use Rattle.trigger_journal.specs.Ahead.{names_ahead}
use Rattle.trigger_journal.specs.Places.{journal_path}
use Rattle.trigger_journal.specs.Requests.{text_at}
use Rattle.trigger_journal.proofs.Steps.{ahead_from, ahead_looked, disk_from, text_by}
use Rattle.trigger_journal.proofs.foreseeing.write_ahead.Goals as goal

pub returns-in_err-names-clause-any_moment : goal.returns-in_err-names-clause-any_moment
returns-in_err-names-clause-any_moment g c = ahead_looked c.args.database.now.records _ _ c.read_names.ensures.looks.reads

pub returns-in_err-text-clause-any_moment : goal.returns-in_err-text-clause-any_moment
returns-in_err-text-clause-any_moment g c = ahead_looked c.args.database.now.records _ _ (reads_then _ _ _ c.read_names.ensures.looks.reads c.read_text.ensures.looks.reads)

pub returns-in_err-left-clause-any_moment : goal.returns-in_err-left-clause-any_moment
returns-in_err-left-clause-any_moment g c = ahead_looked c.args.database.now.records _ _ (reads_then _ _ _ c.read_names.ensures.looks.reads c.read_text.ensures.looks.reads)

pub returns-then-is_empty-clause-any_moment : goal.returns-then-is_empty-clause-any_moment
returns-then-is_empty-clause-any_moment g c = ahead_looked c.args.database.now.records _ _ (reads_then _ _ _ c.read_names.ensures.looks.reads c.read_text.ensures.looks.reads)

pub returns-then-is_empty-clause-on_disk : goal.returns-then-is_empty-clause-on_disk
returns-then-is_empty-clause-on_disk g c = inr (reads_then _ _ _ c.read_names.ensures.looks.reads c.read_text.ensures.looks.reads)

pub returns-in_err-with_lines-clause-any_moment : goal.returns-in_err-with_lines-clause-any_moment
returns-in_err-with_lines-clause-any_moment g c = ahead_looked c.args.database.now.records _ _ (reads_then _ _ _ c.read_names.ensures.looks.reads c.read_text.ensures.looks.reads)

pub returns-clause-any_moment : goal.returns-clause-any_moment
returns-clause-any_moment g c =
    let old = g.H.Host.state c.args.host.now in
    let first = c.read_names.ensures.looks.reads in
    let then = c.read_text.ensures.looks.reads in
    ahead_from c.args.database.now.records _ old _ _ (reads_then _ _ _ first then)
    (λ h.
    let read = c.write_text.ensures.silent.honest h in
    text_by _ _ _ c.in_ok-text.text.items (text_at (old.world journal_path)) _ _ c.in_ok-left.left.items c.in_ok-names.names.items (names_ahead old.world c.args.database.now.records)
    c.in_ok-with_lines.ensures c.as_slice-3.ensures.value c.in_ok-left.ensures c.as_slice.ensures.value c.as_slice-2.ensures.value c.as_slice-4.ensures.value
    (c.in_ok-names.ensures.looks.found (then.honest read) ∙ ap (λ (rs : List Record). names_ahead old.world rs) c.records.ensures)
    (c.in_ok-text.ensures.looks.found read ∙ ap (λ (w : World). text_at (w journal_path)) first.world))
    c.write_text.ensures.any_moment

pub returns-clause-on_disk : goal.returns-clause-on_disk
returns-clause-on_disk g c = disk_from c.write_text.result _ _ _ (reads_then _ _ _ c.read_names.ensures.looks.reads c.read_text.ensures.looks.reads) c.write_text.ensures.on_disk
