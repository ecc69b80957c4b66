use Rattle.std.proofs.Common.{ℕ, List, subst, sym}
use Rattle.std.specs.Prelude.{IsTrue}
use Rattle.dependency_check.specs.Deconfigured.{of_role}
use Rattle.dependency_check.specs.declared.roles.Role.TheVariants.{Broken, Conflicting}
use Rattle.dependency_sets.specs.Choices.{IsListing}
use Rattle.unpack_relations.proofs.Members.{role_listed}
use Rattle.unpack_relations.proofs.ignoring.checked_plan.Goals as goal

pub first_broken-requires : goal.first_broken-requires
first_broken-requires c = subst (λ (l : List ℕ). IsListing (λ x. IsTrue (of_role Broken c.args.incoming.now c.args.packages.now x)) l) (sym c.as_slice.ensures) c.requires.2.broken

pub beside_of-requires-clause-broken : goal.beside_of-requires-clause-broken
beside_of-requires-clause-broken c = role_listed Broken c.args.packages.now c.args.incoming.now c.args.plan.broken c.requires.2.broken

pub beside_of-requires-clause-conflicting : goal.beside_of-requires-clause-conflicting
beside_of-requires-clause-conflicting c = role_listed Conflicting c.args.packages.now c.args.incoming.now c.args.plan.conflicting c.requires.2.conflicting
