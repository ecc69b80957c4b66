use Rattle.std.proofs.Common.{sym, ap, ◌∙◌}
use Rattle.record_changes.specs.Activated.{with_name}
use Rattle.record_changes.specs.Awaits.{is_due}
use Rattle.record_changes.proofs.Due.{due_more, due_same}
use Rattle.record_changes.proofs.awaits.text_due.Goals as goal
use Rattle.record_changes.proofs.awaits.text_due.Goals.{then-branch+in_ok-add_name, else-branch}

pub loop-name-preserved : goal.loop-name-preserved
loop-name-preserved c =
    let due = is_due c.args.database.now.records in
    let names = c.args.names.now in
    let i = c.loop-name.name-index in
    let name = c.name-item.result in
    let old = c.loop-name.text.items in
    elim c.if-branch.branch [
      | then-branch+in_ok-add_name w ↦
          due_more due names i name old c.if-branch.text.items c.loop-name-test.true c.name-item.is (sym c.in_ok-is_due.ensures ∙ w.if-branch.true) c.loop-name.invariant
          (ap (λ t. t.items) w.text-is ∙ w.in_ok-add_name.ensures ∙ ap (with_name old) (w.as_bytes.ensures.value ∙ w.as_str.ensures))
      | else-branch w ↦ due_same due names i name old c.if-branch.text.items c.loop-name-test.true c.name-item.is (sym c.in_ok-is_due.ensures ∙ w.if-branch.false) c.loop-name.invariant (ap (λ t. t.items) w.text-is)
    ]
