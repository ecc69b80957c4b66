use Rattle.std.proofs.Common.{arith, ◌+◌, ◌<◌, List, length, subst}
use Rattle.dependency_check.proofs.LeftLaws.{not_true}
use Rattle.dependency_check.proofs.MeetingLaws.{none_below}
use Rattle.dependency_sets.specs.Sets.{has}
use Rattle.relation_index.specs.declared.package.Package.{Package}
use Rattle.trigger_run.specs.Needs.{LacksAt}
use Rattle.trigger_run.proofs.Lacking.{none_lacks}
use Rattle.trigger_run.proofs.needs.lacks.Goals as goal

pub loop-number-preserved : goal.loop-number-preserved
loop-number-preserved c =
    none_below (LacksAt c.args.packages.now (has c.args.set.now) c.args.name.now) c.loop-number.number
    (not_true c.in_ok-found.found (LacksAt c.args.packages.now (has c.args.set.now) c.args.name.now c.loop-number.number) c.if-found.false c.in_ok-found.ensures) c.loop-number.invariant

pub returns : goal.returns
returns c =
    none_lacks c.args.packages.now (has c.args.set.now) c.args.name.now c.loop-number.number
    (subst (λ (l : List Package). length l < c.loop-number.number + 1) c.as_slice-number-end.ensures.list (omega arith)) c.loop-number.invariant
