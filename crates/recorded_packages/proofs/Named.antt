-- The packages of records have their names, and are as many; the first one tells the architecture of the root.
use Rattle.std.proofs.Common.{◌≡◌, ℕ, suc, List, [], ◌∷◌, length, map, Option, Some, None, refl, ap, ◌∙◌}
use Rattle.relation_index.specs.declared.package.Package.{Package}
use Rattle.stated_relations.specs.Relations.{architecture_of, counted_as}
use Rattle.status_db.specs.Order.{names_of}
use Rattle.status_records.specs.declared.record.Record.{Record}
use Rattle.recorded_packages.specs.Packages.{ArePackagesIn, ArePackagesOf, first_architecture, root_architecture}

names_in : (root : Option (List ℕ)) (records : List Record) (packages : List Package) → ArePackagesIn root records packages → map (λ p. p.name) packages ≡ names_of records
names_in root [] [] are = refl
names_in root [] (p ∷ ps) are = absurd are
names_in root (r ∷ rs) [] are = absurd are
names_in root (r ∷ rs) (p ∷ ps) are = ap (λ (n : List ℕ). n ∷ map (λ q. q.name) ps) are.0.name ∙ ap (λ (l : List (List ℕ)). r.name ∷ l) (names_in root rs ps are.1)

as_many_in : (root : Option (List ℕ)) (records : List Record) (packages : List Package) → ArePackagesIn root records packages → length packages ≡ length records
as_many_in root [] [] are = refl
as_many_in root [] (p ∷ ps) are = absurd are
as_many_in root (r ∷ rs) [] are = absurd are
as_many_in root (r ∷ rs) (p ∷ ps) are = ap suc (as_many_in root rs ps are.1)

pub names_are : (records : List Record) (packages : List Package) → ArePackagesOf records packages → map (λ p. p.name) packages ≡ names_of records
names_are records packages are = names_in (root_architecture records) records packages are

pub as_many : (records : List Record) (packages : List Package) → ArePackagesOf records packages → length packages ≡ length records
as_many records packages are = as_many_in (root_architecture records) records packages are

own_once : (root own : Option (List ℕ)) → counted_as (counted_as root own) own ≡ counted_as root own
own_once root None = refl
own_once root (Some word) = refl

pub first_is_root : (records : List Record) (packages : List Package) → ArePackagesOf records packages → first_architecture packages ≡ root_architecture records
first_is_root [] [] are = refl
first_is_root [] (p ∷ ps) are = absurd are
first_is_root (r ∷ rs) [] are = absurd are
first_is_root (r ∷ rs) (p ∷ ps) are = are.0.architecture ∙ own_once (root_architecture rs) (architecture_of r.fields)
