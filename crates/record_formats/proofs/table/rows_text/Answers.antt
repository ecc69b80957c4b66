use Rattle.std.proofs.Common.{◌∙◌}
use Rattle.std.proofs.lemmas.Result.{IfOk-weaker}
use Rattle.record_formats.proofs.SomeRows.{some_rows}
use Rattle.record_formats.proofs.table.rows_text.Goals as goal

pub returns : goal.returns
returns c = IfOk-weaker c.lines_text.result _ _ (λ text h. h ∙ some_rows c.args.rows.now _ c.is_empty.ensures c.if-is_empty.false) c.lines_text.ensures
