use Rattle.diversions.proofs.WrittenTables.{written_with}
use Rattle.diversions.proofs.writing.text_with.Goals as goal

pub returns : goal.returns
returns c = written_with c.args.table.now c.args.entry.now _ _ _ c.as_str.ensures c.requires c.in_ok-text.ensures c.in_ok-write_entry.ensures
