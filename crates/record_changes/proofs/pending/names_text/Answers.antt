use Rattle.record_changes.proofs.NameTexts.{names_read}
use Rattle.record_changes.proofs.pending.names_text.Goals as goal

pub unwrap-requires : goal.unwrap-requires
unwrap-requires c = names_read _ _ c.args.names.now c.text.result.now c.from_utf8.result c.text.ensures.text c.from_utf8.ensures.cases c.text.ensures.names
