use Rattle.std.proofs.Common.{◌<◌, ◌∙◌, ap, sym, length, arith}
use Rattle.status_records.specs.Paragraphs.{paragraph_of, HasParts}
use Rattle.status_records.proofs.Standing.{written_more, all_more, paragraphs_same, all_same}
use Rattle.status_records.proofs.writing.paragraphs_of.Goals as goal
use Rattle.status_records.proofs.writing.paragraphs_of.Goals.{then-not-is_not_installed+in_ok-paragraph_of+in_ok-push, else-not-is_not_installed}

pub loop-entry-preserved : goal.loop-entry-preserved
loop-entry-preserved c =
    let rs = c.args.records.now in
    let i = c.loop-entry.entry-index in
    let lt : i < length rs = omega arith in
    elim c.if-not-is_not_installed.branch [
      | then-not-is_not_installed+in_ok-paragraph_of+in_ok-push w ↦ (
        written_more paragraph_of rs i c.entry-item.result c.loop-entry.paragraphs.items c.if-not-is_not_installed.paragraphs.items w.in_ok-paragraph_of.field-0 lt c.entry-item.is
            (sym c.is_not_installed.ensures ∙ w.if-not-is_not_installed.true) c.loop-entry.invariant.0 (ap (λ v. v.items) w.paragraphs-is ∙ w.in_ok-push.ensures.items) w.in_ok-paragraph_of.ensures.paragraph,
        all_more HasParts rs i c.entry-item.result lt c.entry-item.is (sym c.is_not_installed.ensures ∙ w.if-not-is_not_installed.true) c.loop-entry.invariant.1 w.in_ok-paragraph_of.ensures.parts,
      )
      | else-not-is_not_installed w ↦ (
        paragraphs_same paragraph_of rs i c.entry-item.result c.loop-entry.paragraphs.items c.if-not-is_not_installed.paragraphs.items lt c.entry-item.is
            (sym c.is_not_installed.ensures ∙ w.if-not-is_not_installed.false) c.loop-entry.invariant.0 (ap (λ v. v.items) w.paragraphs-is),
        all_same HasParts rs i c.entry-item.result lt c.entry-item.is (sym c.is_not_installed.ensures ∙ w.if-not-is_not_installed.false) c.loop-entry.invariant.1,
      )
    ]
