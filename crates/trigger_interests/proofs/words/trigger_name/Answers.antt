use Rattle.std.proofs.Common.{◌∙◌, sym}
use Rattle.trigger_interests.proofs.Names.{name_reads}
use Rattle.trigger_interests.proofs.words.trigger_name.Goals as goal

pub unwrap-requires : goal.unwrap-requires
unwrap-requires c = name_reads _ _ c.args.word.now c.from_utf8.result c.from_utf8.ensures.cases (sym c.is_trigger_name.ensures ∙ c.if-not-is_trigger_name.false)
