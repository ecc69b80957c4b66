use Rattle.std.proofs.Common.{◌∙◌, sym}
use Rattle.trigger_files.proofs.Written.{going, writing}
use Rattle.trigger_files.proofs.writing.put.Goals as goal

pub returns-then-is_empty-clause-any_moment : goal.returns-then-is_empty-clause-any_moment
returns-then-is_empty-clause-any_moment g c = going c.args.path.now c.args.lines.now _ _ (sym c.is_empty.ensures ∙ c.if-is_empty.true) c.discard.ensures.any_moment

pub returns-clause-any_moment : goal.returns-clause-any_moment
returns-clause-any_moment g c = writing c.args.path.now c.args.lines.now _ _ _ (sym c.is_empty.ensures ∙ c.if-is_empty.false) c.in_ok-node.ensures c.replace.ensures.any_moment
