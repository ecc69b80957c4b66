use Rattle.std.proofs.Common.{subst, sym, List}
use Rattle.std.specs.Prelude.{IsTrue}
use Rattle.dependency_sets.specs.Choices.{IsListing}
use Rattle.relation_index.specs.declared.package.Package.{Package}
use Rattle.dependency_check.specs.Deconfigured.{of_role}
use Rattle.dependency_check.specs.declared.roles.Role.TheVariants.{Conflicting, Broken}
use Rattle.dependency_check.proofs.plan.plan_of.Goals as goal

pub dependents-requires : goal.dependents-requires
dependents-requires c = subst (IsListing (λ x. IsTrue (of_role Conflicting c.args.incoming.now c.args.packages.now x))) (sym c.as_slice.ensures)
    (subst (λ (p : List Package). IsListing (λ x. IsTrue (of_role Conflicting c.args.incoming.now p x)) c.in_ok-conflicting.conflicting) c.as_slice-list.ensures.list c.in_ok-conflicting.ensures)

pub returns : goal.returns
returns c = record {
  broken = subst (λ (p : List Package). IsListing (λ x. IsTrue (of_role Broken c.args.incoming.now p x)) c.in_ok-broken.broken) c.as_slice-list.ensures.list c.in_ok-broken.ensures;
  dependents = c.in_ok-dependents.ensures;
  conflicting = subst (λ (p : List Package). IsListing (λ x. IsTrue (of_role Conflicting c.args.incoming.now p x)) c.in_ok-conflicting.conflicting) c.as_slice-list.ensures.list c.in_ok-conflicting.ensures;
}
