use Rattle.std.proofs.Common.{◌∙◌, sym}
use Rattle.path_filters.proofs.Trimming.{trimmed_all, trimmed_more}
use Rattle.path_filters.proofs.hiding.trimmed.Goals as goal

pub returns-then-not-is_slash : goal.returns-then-not-is_slash
returns-then-not-is_slash c = trimmed_all c.loop-rest.rest.now c.in-len1-up.len_at_least (sym c.is_slash.ensures ∙ c.if-not-is_slash.true) ∙ c.loop-rest.invariant

pub loop-rest-preserved : goal.loop-rest-preserved
loop-rest-preserved c = trimmed_more c.loop-rest.rest.now c.in-len1-up.len_at_least (sym c.is_slash.ensures ∙ c.if-not-is_slash.false) ∙ c.loop-rest.invariant
