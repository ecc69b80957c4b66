use Rattle.std.proofs.Common.{ℕ, ◌<◌, List, length, subst, sym}
use Rattle.std.specs.List.{All}
use Rattle.dependency_check.specs.declared.plan.Dependent.{Dependent as Numbered}
use Rattle.unpack_relations.specs.Beside.{IsNumbered}
use Rattle.unpack_relations.proofs.beside.beside_of.Goals as goal

pub names_at-requires : goal.names_at-requires
names_at-requires c = subst (λ (l : List ℕ). All (λ x. x < length c.args.packages.now) l) (sym c.as_slice.ensures) c.requires.broken

pub dependents_at-requires : goal.dependents_at-requires
dependents_at-requires c = subst (λ (l : List Numbered). All (IsNumbered c.args.packages.now) l) (sym c.as_slice-2.ensures.value) c.requires.dependents

pub names_at-requires-2 : goal.names_at-requires-2
names_at-requires-2 c = subst (λ (l : List ℕ). All (λ x. x < length c.args.packages.now) l) (sym c.as_slice-3.ensures) c.requires.conflicting
