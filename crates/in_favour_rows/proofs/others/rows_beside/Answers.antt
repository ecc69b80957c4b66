use Rattle.std.proofs.Common.{◌∙◌, ap}
use Rattle.in_favour_rows.specs.Entries.{entry_records}
use Rattle.in_favour_rows.proofs.Apart.{entries_apart, entries_recorded, entries_unnamed}
use Rattle.in_favour_rows.proofs.others.rows_beside.Goals as goal

pub returns-in-Ok-clause-recorded : goal.returns-in-Ok-clause-recorded
returns-in-Ok-clause-recorded g c =
    entries_recorded c.args.database.now.records c.args.beside.now _
    (c.in-Ok.ensures.same ∙ ap entry_records (c.as_slice.ensures.value ∙ c.in_ok-entries.ensures))

pub returns-in-Ok-clause-unnamed : goal.returns-in-Ok-clause-unnamed
returns-in-Ok-clause-unnamed g c =
    entries_unnamed c.args.database.now.records c.args.beside.now _
    (c.in-Ok.ensures.same ∙ ap entry_records (c.as_slice.ensures.value ∙ c.in_ok-entries.ensures)) c.args.incoming.now.name c.requires

pub returns-in-Ok-clause-apart : goal.returns-in-Ok-clause-apart
returns-in-Ok-clause-apart g c =
    entries_apart c.args.database.now.records c.args.beside.now _
    (c.in-Ok.ensures.same ∙ ap entry_records (c.as_slice.ensures.value ∙ c.in_ok-entries.ensures)) c.args.incoming.now.name c.requires
