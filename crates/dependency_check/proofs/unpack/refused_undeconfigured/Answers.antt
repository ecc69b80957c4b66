use Rattle.std.proofs.Common.{ℕ, subst, sym, ◌∙◌, List}
use Rattle.std.specs.Prelude.{IsTrue}
use Rattle.dependency_sets.specs.Choices.{IsFirst}
use Rattle.relation_index.specs.declared.package.Package.{Package}
use Rattle.dependency_check.specs.Deconfigured.{of_role}
use Rattle.dependency_check.specs.declared.roles.Role.TheVariants.{Broken}
use Rattle.dependency_check.proofs.UnpackLaws.{first_dependent, no_dependent}
use Rattle.dependency_check.proofs.unpack.refused_undeconfigured.Goals as goal

pub returns-in-Some : goal.returns-in-Some
returns-in-Some c = first_dependent c.args.packages.now c.args.incoming.now c.args.plan.now.dependents.items c.as_slice.result.now c.in-Some.number c.as_slice.ensures.value c.requires.dependents (sym c.first_number-dependent.ensures ∙ c.in-Some.is)

pub returns-in-Some-broken : goal.returns-in-Some-broken
returns-in-Some-broken c = (
  no_dependent c.args.packages.now c.args.incoming.now c.args.plan.now.dependents.items c.as_slice.result.now c.as_slice.ensures.value c.requires.dependents (sym c.first_number-dependent.ensures ∙ c.in_default.is),
  subst (λ (p : List Package). IsFirst (λ y. IsTrue (of_role Broken c.args.incoming.now p y)) c.in-Some-broken.number) c.as_slice-2.ensures.list c.in-Some-broken.ensures,
)

pub returns-in-None : goal.returns-in-None
returns-in-None c = (
  no_dependent c.args.packages.now c.args.incoming.now c.args.plan.now.dependents.items c.as_slice.result.now c.as_slice.ensures.value c.requires.dependents (sym c.first_number-dependent.ensures ∙ c.in_default.is),
  subst (λ (p : List Package). (x : ℕ) → IsTrue (of_role Broken c.args.incoming.now p x) → ⊥) c.as_slice-2.ensures.list c.in-None.ensures,
)
