use Rattle.package_tree.specs.Conffiles.{IsOdd}
use Rattle.package_tree.proofs.Entries.{first_at}
use Rattle.package_tree.proofs.conffile_lines.first_odd.Goals as goal

pub returns-then-is_odd : goal.returns-then-is_odd
returns-then-is_odd c =
    let entry = c.index-entries-index.result in
    (entry, first_at IsOdd c.args.entries.now c.loop-index.index entry c.loop-index-test.true c.index-entries-index.is c.loop-index.invariant (c.is_odd.ensures.0 c.if-is_odd.true))
