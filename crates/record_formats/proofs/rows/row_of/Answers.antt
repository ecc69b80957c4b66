use Rattle.std.proofs.Common.{◌≡◌, ◌∙◌, ap, option_copied}
use Rattle.std.proofs.lemmas.Result.{IfOk-weaker}
use Rattle.status_records.specs.Paragraphs.{paragraph_of}
use Rattle.record_formats.specs.Tables.{row_from, row_of}
use Rattle.record_formats.proofs.rows.row_of.Goals as goal

pub returns : goal.returns
unfolding row_of
returns c =
    let fields : c.in_ok-fields.fields ≡ paragraph_of c.args.entry.now = c.in_ok-fields.ensures.paragraph in
    IfOk-weaker c.row_from.result _ _ (λ row h. h ∙ ap (row_from (option_copied c.args.root) c.args.entry.now) fields) c.row_from.ensures
