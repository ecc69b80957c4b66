use Rattle.std.proofs.Common.{◌∙◌, sym}
use Rattle.relation_fields.proofs.Architectures.{architecture_reads}
use Rattle.relation_fields.proofs.architecture.architecture_name.Goals as goal

pub unwrap-requires : goal.unwrap-requires
unwrap-requires c = architecture_reads _ _ c.args.word.now c.from_utf8.result c.from_utf8.ensures.cases (sym c.is_architecture.ensures ∙ c.if-not-is_architecture.false)
