use Rattle.removal_run.proofs.Overleft.{one_depends, told_of}
use Rattle.removal_run.proofs.left.left_unit.Goals as goal

pub unreachable-requires : goal.unreachable-requires
unreachable-requires c =
    one_depends c.args.queue.now c.packages-packages.result.now c.supply.result.now c.args.left.now c.args.number c.in_ok-other.field-0 c.packages-packages.ensures c.supply.ensures c.in_ok-other.ensures c.requires.left c.requires.waits c.requires.none c.in-None.is

pub returns : goal.returns
returns c =
    told_of c.args.queue.now c.packages-packages.result.now c.supply.result.now c.args.left.now c.args.number c.in_ok-other.field-0 c.packages-packages.ensures c.supply.ensures c.in_ok-other.ensures c.in-Some.other c.in_ok-name_of-in-Some.field-0 c.in_ok-name_of-in-Some-2.field-0 c.refused.result c.in-Some.is c.in_ok-name_of-in-Some.ensures c.in_ok-name_of-in-Some-2.ensures c.refused.ensures
