use Rattle.std.proofs.Common.{List}
use Rattle.relation_fields.specs.declared.alternative.Alternative.{Alternative}
use Rattle.relation_index.specs.Packages.{Meets}
use Rattle.dependency_sets.specs.Sets.{has}
use Rattle.dependency_check.specs.Queues.{IsMetBy}
use Rattle.dependency_check.proofs.LeftLaws.{one_of_both}
use Rattle.dependency_check.proofs.left.has_need_left.Goals as goal

pub returns : goal.returns
returns c = one_of_both (λ (x : List Alternative). Meets x c.args.packages.now c.args.number) (λ (x : List Alternative). IsMetBy c.args.packages.now x (has c.args.staying.now) → ⊥) c.args.of.now.pre_depends c.args.of.now.depends c.clauses-first.result.now c.clauses-second.result.now c.in_ok-before.before c.in_ok-after.after c.clauses-first.ensures c.clauses-second.ensures c.in_ok-before.ensures c.if-before.false c.in_ok-after.ensures
