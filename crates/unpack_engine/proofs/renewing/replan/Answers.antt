use Rattle.std.proofs.Common.{◌≡◌, Option, Some, refl, sym, subst, ◌∙◌}
use Rattle.std.specs.Prelude.{IfSome}
use Rattle.package_tree.specs.declared.package.Package.{Package}
use Rattle.unpack_engine.proofs.renewing.replan.Goals as goal

pub returns-clause-planned : goal.returns-clause-planned
returns-clause-planned c = λ j calls tree lists planned.
    let is : c.args.spare.now ≡ Some c.in-Some.tree = sym c.in-Some.ensures.value ∙ refl in
    let same : j.«package» ≡ c.in-Some.tree = subst (λ (o : Option Package). IfSome o (λ t. j.«package» ≡ t)) is tree in
    c.in_ok-files.ensures j c.args.works.now.items calls c.args.commit.now same lists refl planned
