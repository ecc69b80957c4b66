use Rattle.trigger_engine.proofs.TriggerTexts.{names_read}
use Rattle.trigger_engine.proofs.stages.names_text.Goals as goal

pub unwrap-requires : goal.unwrap-requires
unwrap-requires c = names_read _ _ c.args.names.now c.text.result.now c.from_utf8.result c.text.ensures.text c.from_utf8.ensures.cases c.text.ensures.names
