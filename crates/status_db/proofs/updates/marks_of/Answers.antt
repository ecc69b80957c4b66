use Rattle.std.proofs.Common.{◌∙◌}
use Rattle.status_db.proofs.Marks.{marks_more}
use Rattle.status_db.proofs.updates.marks_of.Goals as goal

pub loop-name-preserved : goal.loop-name-preserved
loop-name-preserved c =
    marks_more c.loop-name.marks.items c.mark.new.marks.items c.args.names.now c.loop-name.name-index c.name-item.result c.loop-name-test.true c.name-item.is c.loop-name.invariant c.mark.ensures.length
    (λ n small. c.mark.ensures.less n) (λ n tail small e. c.mark.ensures.marked n tail small (c.as_bytes.ensures.value ∙ c.as_str.ensures ∙ e))
