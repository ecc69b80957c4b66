use Rattle.std.proofs.Common.{arith, get_or, take}
use Rattle.std.proofs.lemmas.List.{get_or_default, take_all}
use Rattle.relation_index.specs.Packages.{needs}
use Rattle.dependency_check.specs.Deconfigured.{LosesBy}
use Rattle.dependency_check.proofs.DependentLaws.{removed_first, removed_none}
use Rattle.dependency_check.proofs.LeftLaws.{not_true}
use Rattle.dependency_check.proofs.MeetingLaws.{none_yet}
use Rattle.dependency_check.proofs.dependents.removed_for.Goals as goal

pub returns-then-loses : goal.returns-then-loses
returns-then-loses c = removed_first c.args.packages.now c.args.incoming.now (needs c.args.of.now) c.args.conflicting.now c.loop-number.number-index c.in_ok-loses.loses c.requires.conflicting (omega arith) c.in_ok-loses.ensures c.if-loses.true c.loop-number.invariant

pub loop-number-preserved : goal.loop-number-preserved
loop-number-preserved c =
    let one = get_or c.args.conflicting.now c.loop-number.number-index 0 in
    none_yet (LosesBy c.args.packages.now c.args.incoming.now (needs c.args.of.now)) c.args.conflicting.now c.loop-number.number-index one (omega arith) (get_or_default c.args.conflicting.now c.loop-number.number-index 0 one (omega arith))
    (not_true c.in_ok-loses.loses (LosesBy c.args.packages.now c.args.incoming.now (needs c.args.of.now) one) c.if-loses.false c.in_ok-loses.ensures) c.loop-number.invariant

pub returns : goal.returns
returns c = removed_none c.args.packages.now c.args.incoming.now (needs c.args.of.now) (take c.loop-number.number-index c.args.conflicting.now) c.args.conflicting.now (take_all c.loop-number.number-index c.args.conflicting.now (omega arith)) c.requires.conflicting c.loop-number.invariant
