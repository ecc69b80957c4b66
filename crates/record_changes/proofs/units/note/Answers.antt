use Rattle.std.proofs.Common.{inl, ap, refl, ◌∙◌}
use Rattle.held_administration.specs.Order.{IsInOrder}
use Rattle.host_core.specs.Host.{Needs}
use Rattle.status_records.specs.Records.{put_record, record_in}
use Rattle.status_records.specs.Words.{is_not_installed}
use Rattle.status_records.specs.declared.record.Record.{Record}
use Rattle.unit_reports.proofs.Counting.{fault_within}
use Rattle.unit_reports.specs.Held.{held_by}
use Rattle.unit_reports.specs.declared.report.Reply.TheVariants.{Broken}
use Rattle.unit_stages.proofs.Order.{note_order}
use Rattle.record_changes.specs.Activated.{changed}
use Rattle.record_changes.specs.Units.{IsChange}
use Rattle.record_changes.proofs.Changing.{named, still_stands}
use Rattle.record_changes.proofs.Found.{found_name, found_stands, is_known}
use Rattle.record_changes.proofs.Indexed.{still_indexed}
use Rattle.record_changes.proofs.Notes.{broken_or, noted_counts, noted_within, since_noting}
use Rattle.record_changes.proofs.units.note.Goals as goal

pub note_record-requires-clause-stands : goal.note_record-requires-clause-stands
note_record-requires-clause-stands g c =
    let (r, found, other, same) = c.requires.decided in
    let old = c.args.administration.now.database.records in
    ap (λ (e : Record). is_not_installed e.state) same ∙ still_stands c.args.asked.now.change r (found_stands old c.args.asked.now.name r c.law.ensures.standing found)

pub returns-in-Ok-clause-unit : goal.returns-in-Ok-clause-unit
returns-in-Ok-clause-unit g c =
    let (r, found, other, same) = c.requires.decided in
    let old = c.args.administration.now.database.records in
    let name = c.args.asked.now.name in
    let own = found_name old name r found in
    let noted = c.in-Ok.ensures.records ∙ ap (λ (e : Record). put_record e old) same in
    let there : Needs (g.H.Host.state c.note_record.new.host) (IsInOrder c.note_record.new.database c.args.administration.now.lists.lists) = (λ h. note_order c.args.administration.now.database c.args.administration.now.lists.lists (g.H.Host.state c.args.host.now).world (c.requires.order (c.in-Ok.ensures.silent.honest h))
    r.name (changed c.args.asked.now.change r) c.note_record.new.database (g.H.Host.state c.note_record.new.host).world
    (record { own = named c.args.asked.now.change r; stands = still_stands c.args.asked.now.change r (found_stands old name r c.law.ensures.standing found); known = is_known old name r found }) noted (c.in-Ok.ensures.kept h)) in
    broken_or c.noted.result.reply (λ done. record {
      is = λ diverted. IsChange.noted r found other done (record {
        records = noted;
        lists = refl;
        ways = refl;
        noted = c.in-Ok.ensures.kept;
        order = there;
        silent = c.in-Ok.ensures.silent;
      });
      opened = λ ways was. record { noting = c.in-Ok.ensures.opened; listing = was.listing; kept = was.kept };
      order = there;
      indexed = λ are. still_indexed old c.note_record.new.database.records c.args.asked.now.change r c.law.ensures.order (ap (record_in old) own ∙ found) other noted c.args.administration.now.packages c.forget_changed.new.packages c.forget_changed.ensures are;
      answered = inl c.in-Ok.ensures.on_disk;
    }) c.noted.ensures.unit

pub returns-in-Ok-clause-counts : goal.returns-in-Ok-clause-counts
returns-in-Ok-clause-counts g c = noted_counts c.args.asked.now _ c.noted.result (g.H.Host.state c.args.host.now) (g.H.Host.state c.note_record.new.host) c.in-Ok.ensures.counts c.noted.ensures.unit

pub returns-in-Ok-clause-not_closed : goal.returns-in-Ok-clause-not_closed
returns-in-Ok-clause-not_closed g c = noted_within c.args.asked.now _ c.noted.result c.noted.ensures.unit

pub returns-in-Err-clause-not_closed : goal.returns-in-Err-clause-not_closed
returns-in-Err-clause-not_closed g c = fault_within c.in-Err.fault c.broken.result.reply (c.broken.ensures.reply ∙ ap Broken c.breakage_of.ensures)

pub returns-in-Ok-clause-any_moment : goal.returns-in-Ok-clause-any_moment
returns-in-Ok-clause-any_moment g c = λ diverted.
    let (r, found, other, same) = c.requires.decided in
    since_noting c.args.asked.now r c.args.entry (held_by c.args.administration.now diverted) (g.H.Host.state c.args.host.now) (g.H.Host.state c.note_record.new.host) found same c.note_record.ensures.silent c.note_record.ensures.any_moment

pub returns-in-Err-clause-any_moment : goal.returns-in-Err-clause-any_moment
returns-in-Err-clause-any_moment g c = λ diverted.
    let (r, found, other, same) = c.requires.decided in
    since_noting c.args.asked.now r c.args.entry (held_by c.args.administration.now diverted) (g.H.Host.state c.args.host.now) (g.H.Host.state c.note_record.new.host) found same c.note_record.ensures.silent c.note_record.ensures.any_moment
