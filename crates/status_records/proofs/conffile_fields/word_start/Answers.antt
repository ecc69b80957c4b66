use Rattle.std.proofs.Common.{Bool, cond, ◌+◌, sym, ap, ◌∙◌, arith}
use Rattle.status_records.proofs.ConffileWords.{start_more}
use Rattle.status_records.proofs.conffile_fields.word_start.Goals as goal
use Rattle.status_records.proofs.conffile_fields.word_start.Goals.{then-is_blank, else-is_blank}

pub loop-i-preserved : goal.loop-i-preserved
loop-i-preserved c =
    let text = c.args.text.now in
    let i = c.loop-i.i in
    let step = start_more text i c.loop-i.start c.loop-i-test.true c.loop-i.invariant.0 in
    elim c.if-is_blank.branch [
      | then-is_blank w ↦ (w.start-is ∙ sym (step ∙ ap (λ (y : Bool). cond y (i + 1) c.loop-i.start) (sym c.is_blank.ensures ∙ w.if-is_blank.true)), omega arith)
      | else-is_blank w ↦ (w.start-is ∙ sym (step ∙ ap (λ (y : Bool). cond y (i + 1) c.loop-i.start) (sym c.is_blank.ensures ∙ w.if-is_blank.false)), omega (arith, c.loop-i.invariant.1))
    ]
