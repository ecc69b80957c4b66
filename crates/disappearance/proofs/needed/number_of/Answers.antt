use Rattle.std.proofs.Common.{arith, sym, ◌∙◌}
use Rattle.dependency_check.proofs.MeetingLaws.{none_below}
use Rattle.disappearance.specs.Needed.{HasNumber}
use Rattle.disappearance.proofs.Numbers.{called_here, not_called}
use Rattle.disappearance.proofs.needed.number_of.Goals as goal

pub loop-number-preserved : goal.loop-number-preserved
loop-number-preserved c =
    none_below (HasNumber c.args.packages.now c.args.name.now) c.loop-number.number
    (not_called c.args.packages.now c.args.name.now c.loop-number.number c.index-packages-number.result (omega arith) c.index-packages-number.is (sym c.is_called.ensures ∙ c.if-is_called.false)) c.loop-number.invariant

pub returns-then-is_called : goal.returns-then-is_called
returns-then-is_called c = called_here c.args.packages.now c.args.name.now c.loop-number.number c.index-packages-number.result (omega arith) c.index-packages-number.is (sym c.is_called.ensures ∙ c.if-is_called.true)

pub returns : goal.returns
returns c = λ x has. c.loop-number.invariant x (omega (arith, has.1)) has
