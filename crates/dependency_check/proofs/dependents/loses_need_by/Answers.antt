use Rattle.std.proofs.Common.{List}
use Rattle.relation_fields.specs.declared.alternative.Alternative.{Alternative}
use Rattle.relation_index.specs.Packages.{Meets}
use Rattle.dependency_check.specs.Deconfigured.{IsLost}
use Rattle.dependency_check.proofs.LeftLaws.{one_of_both}
use Rattle.dependency_check.proofs.dependents.loses_need_by.Goals as goal

pub returns : goal.returns
returns c = one_of_both (λ (x : List Alternative). Meets x c.args.packages.now c.args.number) (IsLost c.args.packages.now c.args.incoming.now) c.args.of.now.pre_depends c.args.of.now.depends c.clauses-first.result.now c.clauses-second.result.now c.in_ok-before.before c.in_ok-after.after c.clauses-first.ensures c.clauses-second.ensures c.in_ok-before.ensures c.if-before.false c.in_ok-after.ensures
