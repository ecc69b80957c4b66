use Rattle.std.proofs.Common.{subst, ◌∙◌, List}
use Rattle.relation_fields.specs.declared.alternative.Alternative.{Alternative}
use Rattle.relation_index.specs.Packages.{AreMeeters}
use Rattle.relation_index.specs.declared.package.Package.{Package}
use Rattle.relation_index.proofs.packages.Packages.meeters.Goals as goal

pub returns : goal.returns
returns c = subst (λ (l : List Package). AreMeeters l c.args.clause.now c.in_ok-numbers.numbers) (c.as_slice-packages.ensures.value ∙ c.self.view_is)
    (subst (λ (k : List Alternative). AreMeeters c.as_slice-packages.result.now k c.in_ok-numbers.numbers) c.alternatives.ensures c.in_ok-numbers.ensures)
