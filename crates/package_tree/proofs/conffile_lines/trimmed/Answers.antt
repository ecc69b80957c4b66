use Rattle.std.proofs.Common.{◌∙◌, sym}
use Rattle.package_tree.proofs.Trims.{trimmed_more, trimmed_all}
use Rattle.package_tree.proofs.conffile_lines.trimmed.Goals as goal

pub returns-then-not-is_white : goal.returns-then-not-is_white
returns-then-not-is_white c = trimmed_all c.loop-rest.rest.now c.in-len1-up.len_at_least (sym c.is_white.ensures ∙ c.if-not-is_white.true) ∙ c.loop-rest.invariant

pub loop-rest-preserved : goal.loop-rest-preserved
loop-rest-preserved c = trimmed_more c.loop-rest.rest.now c.in-len1-up.len_at_least (sym c.is_white.ensures ∙ c.if-not-is_white.false) ∙ c.loop-rest.invariant
