-- What an unpack does to other packages, by their names (Policy 7.2 to 7.6).
use Rattle.std.specs.Prelude.{◌≡◌, ◌<◌, ℕ, ◌&&◌, Bool, List, [], map, filter, length, slice_index_or}
use Rattle.std.specs.List.{list_any}
use Rattle.dependency_check.specs.Roles.{is_other}
use Rattle.dependency_check.specs.declared.plan.Dependent.{Dependent as Numbered}
use Rattle.dependency_check.specs.declared.plan.Plan.{Plan}
use Rattle.relation_fields.specs.Admission.{clause_admits}
use Rattle.relation_index.specs.Packages.{is_present}
use Rattle.relation_index.specs.declared.package.Package.{Package}
use Rattle.unpack_relations.specs.declared.beside.Beside.{Beside}
use Rattle.unpack_relations.specs.declared.beside.Dependent.{Dependent}

-- the name and the version of the package of this number
abbrev pub name_at : List Package → ℕ → List ℕ
name_at packages x = slice_index_or (map (λ p. p.name) packages) x []

abbrev pub version_at : List Package → ℕ → List ℕ
version_at packages x = slice_index_or (map (λ p. p.version) packages) x []

abbrev pub dependent_at : List Package → Numbered → Dependent
dependent_at packages d = record { name = name_at packages d.number; removing = name_at packages d.removing; version = version_at packages d.removing }

-- both of its numbers are packages'
abbrev pub IsNumbered : List Package → Numbered → Type 0
IsNumbered packages d = (d.number < length packages) × (d.removing < length packages)

-- Policy 7.6.1: another package that is at least half-installed, which Replaces admits by its own name and version
abbrev pub is_replaced : Package → Package → Bool
is_replaced incoming p = is_other incoming p && (is_present p && list_any (λ clause. clause_admits clause p.name p.architecture p.version []) incoming.replaces)

-- the plan with names in the place of numbers, and the replaced packages
pub record IsBeside (packages : List Package) (incoming : Package) (plan : Plan) (b : Beside) : Type 0 where
  pub broken : b.broken ≡ map (name_at packages) plan.broken
  pub dependents : b.dependents.items ≡ map (dependent_at packages) plan.dependents.items
  pub conflicting : b.conflicting ≡ map (name_at packages) plan.conflicting
  pub replaced : b.replaced ≡ map (λ p. p.name) (filter (is_replaced incoming) packages)
