use Rattle.std.proofs.Common.{arith, subst, List}
use Rattle.std.proofs.lemmas.List.{take_all}
use Rattle.relation_fields.specs.declared.alternative.Alternative.{Alternative}
use Rattle.relation_index.specs.Bearing.{HasStated}
use Rattle.relation_index.proofs.StatingLaws.{stated_none, stated_more}
use Rattle.relation_index.proofs.clauses.push_clauses.Goals as goal

pub loop-one-init : goal.loop-one-init
loop-one-init c = stated_none c.args.packages.now c.args.owner c.args.list.now.items

pub loop-one-preserved : goal.loop-one-preserved
loop-one-preserved c = stated_more c.args.packages.now c.args.owner c.args.stated.now c.loop-one.one-index c.one-item.result c.in_ok-clause_of.field-0 c.args.list.now.items c.loop-one.list.items _ (omega arith) c.one-item.is c.in_ok-push.ensures.items c.in_ok-clause_of.ensures.owner c.in_ok-clause_of.ensures.meeters c.loop-one.invariant

pub returns : goal.returns
returns c = subst (λ (l : List (List Alternative)). HasStated c.args.packages.now c.args.owner l c.args.list.now.items c.loop-one.list.items) (take_all c.loop-one.one-index c.args.stated.now (omega arith)) c.loop-one.invariant
