use Rattle.std.proofs.Common.{◌∙◌, sym, arith}
use Rattle.file_lists.proofs.Increasing.{increasing_first, increasing_after}
use Rattle.list_changes.proofs.ordering.are_increasing.Goals as goal

pub loop-at-init : goal.loop-at-init
loop-at-init c = increasing_first c.args.paths.now

pub loop-at-preserved : goal.loop-at-preserved
loop-at-preserved c =
    increasing_after c.args.paths.now c.loop-at.at _ _ c.loop-at-test.true (omega (arith, c.loop-at.auto.at)) c.loop-at.invariant c.index-paths-at.is c.index-paths-at-in-loop-at.is (sym c.is_before.ensures ∙ c.if-not-is_before.false)
