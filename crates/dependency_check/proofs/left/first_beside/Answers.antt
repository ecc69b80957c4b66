use Rattle.std.proofs.Common.{arith}
use Rattle.dependency_sets.specs.Sets.{has}
use Rattle.dependency_sets.proofs.StrikingLaws.{in_range}
use Rattle.dependency_check.specs.Left.{DependsBeside}
use Rattle.dependency_check.proofs.LeftLaws.{not_true}
use Rattle.dependency_check.proofs.MeetingLaws.{none_below}
use Rattle.dependency_check.proofs.left.first_beside.Goals as goal

pub loop-other-preserved : goal.loop-other-preserved
loop-other-preserved c =
    none_below (DependsBeside c.args.packages.now (has c.args.installed.now) (has c.args.staying.now) c.args.number) c.loop-other.other
    (not_true c.in_ok-depends.depends (DependsBeside c.args.packages.now (has c.args.installed.now) (has c.args.staying.now) c.args.number c.loop-other.other) c.if-depends.false c.in_ok-depends.ensures) c.loop-other.invariant

pub returns : goal.returns
returns c y w = c.loop-other.invariant y (omega (arith, in_range c.args.installed.now y w.2)) w
