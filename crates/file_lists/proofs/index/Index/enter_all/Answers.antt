use Rattle.file_lists.proofs.Indexes.{kept_then, entered_more}
use Rattle.file_lists.proofs.index.Index.enter_all.Goals as goal

pub loop-number-preserved : goal.loop-number-preserved
loop-number-preserved c =
    let before = c.loop-number.self in
    let after = c.enter.new.self in
    record {
      kept = kept_then c.args.self.now before after c.loop-number.invariant.kept c.enter.ensures.kept;
      there = entered_more c.args.paths.now c.args.slot c.loop-number.number c.index-paths-number.result before after c.index-paths-number.is c.loop-number-test.true c.loop-number.invariant.there c.enter.ensures.kept c.in_ok-enter.ensures.there;
    }
