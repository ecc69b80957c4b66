use Rattle.std.proofs.Common.{arith}
use Rattle.relation_index.proofs.StatingLaws.{below_none, below_more, below_all}
use Rattle.relation_index.proofs.clauses.clauses_of.Goals as goal

pub loop-owner-init : goal.loop-owner-init
loop-owner-init c = below_none c.args.packages.now _ c.new-list.ensures.items

pub loop-owner-preserved : goal.loop-owner-preserved
loop-owner-preserved c = below_more c.loop-owner.owner c.args.packages.now c.index-packages-owner.result c.loop-owner.list.items _ (omega arith) c.index-packages-owner.is c.loop-owner.invariant c.in_ok-push_needs.ensures

pub returns : goal.returns
returns c = below_all c.loop-owner.owner c.args.packages.now c.loop-owner.list.items (omega arith) c.loop-owner.invariant
