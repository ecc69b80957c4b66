use Rattle.list_changes.specs.Leaving.{leaving_at}
use Rattle.list_changes.proofs.Going.{leaving_more}
use Rattle.list_changes.proofs.leaving.leaving_of.Goals as goal

pub loop-path-preserved : goal.loop-path-preserved
loop-path-preserved c =
    leaving_more (leaving_at c.args.diversions.now.ways c.args.lists.now.lists c.args.name.now c.args.to_come.now c.args.conffiles.now) c.args.listed.now c.loop-path.path-index c.path-item.result c.in_ok-leaving_at.field-0 c.loop-path.leaving.items _
    c.loop-path-test.true c.path-item.is c.loop-path.invariant (c.in_ok-leaving_at.ensures c.args.to_come.now c.args.conffiles.now c.in_ok-places.ensures c.in_ok-texts.ensures) c.in_ok-push.ensures.items
