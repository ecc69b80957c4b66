use Rattle.std.proofs.Common.{arith, ap, length}
use Rattle.dependency_check.proofs.DependentLaws.{dependents_more, dependents_are}
use Rattle.dependency_check.proofs.dependents.dependents.Goals as goal

pub loop-number-preserved : goal.loop-number-preserved
loop-number-preserved c = dependents_more c.args.packages.now c.args.incoming.now c.loop-number.number c.loop-number.list.items c.push_found.new.list.items c.in_ok-found.found c.loop-number.invariant c.in_ok-found.ensures c.in_ok-push_found.ensures.none c.in_ok-push_found.ensures.some

pub returns : goal.returns
returns c = dependents_are c.args.packages.now c.args.incoming.now c.loop-number.number c.loop-number.list.items (omega (arith, ap length c.as_slice-slice.ensures.list)) c.loop-number.invariant
