use Rattle.std.proofs.Common.{subst, List}
use Rattle.relation_fields.specs.declared.alternative.Alternative.{Alternative}
use Rattle.relation_index.specs.Bearing.{HasStated}
use Rattle.relation_index.proofs.StatingLaws.{stated_both}
use Rattle.relation_index.proofs.clauses.push_needs.Goals as goal

pub returns : goal.returns
returns c =
    let mid = c.push_clauses.new.list.items in
    let new = c.push_clauses-2.new.list.items in
    let first = subst (λ (l : List (List Alternative)). HasStated c.args.packages.now c.args.owner l c.args.list.now.items mid) c.clauses-first.ensures c.in_ok-push_clauses.ensures in
    let second = subst (λ (l : List (List Alternative)). HasStated c.args.packages.now c.args.owner l mid new) c.clauses-second.ensures c.in_ok-push_clauses-2.ensures in
    stated_both c.args.packages.now c.args.owner c.args.of.now.pre_depends c.args.of.now.depends c.args.list.now.items mid new first second
