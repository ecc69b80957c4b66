-- Names of packages by their numbers.
use Rattle.std.proofs.Common.{◌≡◌, ℕ, ◌<◌, List, [], ◌∷◌, length, get_or, map, refl, ap, ◌∙◌}
use Rattle.std.proofs.lemmas.List.{get_or-map}
use Rattle.dependency_check.specs.declared.plan.Dependent.{Dependent as Numbered}
use Rattle.relation_index.specs.declared.package.Package.{Package}
use Rattle.unpack_relations.specs.Beside.{dependent_at, name_at}

pub name_here : (packages : List Package) (x : ℕ) (p : Package) → x < length packages → get_or packages x p ≡ p → name_at packages x ≡ p.name
name_here packages x p lt at = get_or-map (λ (q : Package). q.name) packages x p [] lt ∙ ap (λ (q : Package). q.name) at

-- names of dependents are those of their numbers
pub named_dependents : (packages : List Package) (ds : List Numbered) → map (λ d. d.name) (map (dependent_at packages) ds) ≡ map (name_at packages) (map (λ d. d.number) ds)
named_dependents packages [] = refl
named_dependents packages (d ∷ ds) = ap (λ (l : List (List ℕ)). name_at packages d.number ∷ l) (named_dependents packages ds)
