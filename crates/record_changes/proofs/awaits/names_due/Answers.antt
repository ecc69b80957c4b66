use Rattle.std.proofs.Common.{[], filter, ap, ◌∙◌}
use Rattle.record_changes.specs.Activated.{with_names}
use Rattle.record_changes.specs.Awaits.{is_due}
use Rattle.record_changes.specs.Pending.{is_name, names_in}
use Rattle.record_changes.proofs.Due.{read_all}
use Rattle.record_changes.proofs.Names.{kept_names}
use Rattle.record_changes.proofs.awaits.names_due.Goals as goal

pub returns : goal.returns
returns c =
    let due = is_due c.args.database.now.records in
    let awaited = c.args.awaited.now in
    let names = c.as_slice.ensures ∙ c.in_ok-names.ensures ∙ ap names_in c.names_text.ensures.text in
    read_all c.as_slice-2.result.now (with_names [] (filter due (names_in awaited))) c.read.result (c.as_slice-2.ensures.value ∙ c.in_ok-text.ensures ∙ ap (λ l. with_names [] (filter due l)) names)
    (kept_names is_name due awaited c.names_text.ensures.names) c.read.ensures
