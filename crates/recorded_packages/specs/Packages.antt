-- Recorded packages, as relations see them (Policy 7.1).
use Rattle.std.specs.Prelude.{◌≡◌, ℕ, true, false, not, Bool, List, [], ◌∷◌, Option, Some, None, is_some}
use Rattle.std.specs.Str.{bytes_eq}
use Rattle.relation_fields.specs.declared.relation_field.RelationField.TheVariants.{PreDepends, Depends, Breaks, Conflicts, Replaces}
use Rattle.relation_index.specs.declared.package.Package.{Package}
use Rattle.relation_index.specs.declared.package.PackageState.{PackageState}
use Rattle.relation_index.specs.declared.package.PackageState.TheVariants as of
use Rattle.stated_relations.specs.Relations.{StatesClauses, StatesProvides, architecture_of, counted_as, is_essential}
use Rattle.status_records.specs.Configured.{last_configured}
use Rattle.status_records.specs.declared.record.Record.{Record}
use Rattle.status_records.specs.declared.words.Flag.{Flag}
use Rattle.status_records.specs.declared.words.Flag.TheVariants as flag
use Rattle.status_records.specs.declared.words.State.{State}
use Rattle.status_records.specs.declared.words.State.TheVariants.{NotInstalled, ConfigFiles, HalfInstalled, Unpacked, HalfConfigured, Installed}

abbrev pub package_state : State → PackageState
package_state NotInstalled = of.NotInstalled
package_state ConfigFiles = of.ConfigFiles
package_state HalfInstalled = of.HalfInstalled
package_state Unpacked = of.Unpacked
package_state HalfConfigured = of.HalfConfigured
package_state Installed = of.Installed

abbrev pub is_reinstreq : Flag → Bool
is_reinstreq flag.Ok = false
is_reinstreq flag.Reinstreq = true

-- the architecture of a root: that of its first recorded package that doesn't fit each
abbrev pub root_architecture : List Record → Option (List ℕ)
root_architecture [] = None
root_architecture (r ∷ rs) = counted_as (root_architecture rs) (architecture_of r.fields)

-- of these two architectures the second isn't the first
abbrev pub are_two : Option (List ℕ) → Option (List ℕ) → Bool
are_two None own = false
are_two (Some root) None = false
are_two (Some root) (Some own) = not (bytes_eq own root)

-- the package is of another architecture than the root
abbrev pub is_foreign : Option (List ℕ) → Record → Bool
is_foreign root r = are_two root (architecture_of r.fields)

-- the same by the packages: of the first one, which counts as of it
abbrev pub first_architecture : List Package → Option (List ℕ)
first_architecture [] = None
first_architecture (p ∷ ps) = p.architecture

-- a package of a root of this architecture, as its record tells of it
pub record IsPackageOf (root : Option (List ℕ)) (r : Record) (p : Package) : Type 0 where
  pub name : p.name ≡ r.name
  pub architecture : p.architecture ≡ counted_as root (architecture_of r.fields)
  pub version : p.version ≡ r.version
  pub state : p.state ≡ package_state r.state
  pub awaits : p.awaits ≡ is_some r.triggers.awaited
  pub reinstreq : p.reinstreq ≡ is_reinstreq r.flag
  pub essential : p.essential ≡ is_essential r.fields
  pub configured : p.configured ≡ last_configured r
  pub removed_since : p.removed_since ≡ r.removed_since
  pub provides : ∥ StatesProvides r.fields p.provides ∥₁
  pub pre_depends : ∥ StatesClauses PreDepends r.fields p.pre_depends ∥₁
  pub depends : ∥ StatesClauses Depends r.fields p.depends ∥₁
  pub breaks : ∥ StatesClauses Breaks r.fields p.breaks ∥₁
  pub conflicts : ∥ StatesClauses Conflicts r.fields p.conflicts ∥₁
  pub replaces : ∥ StatesClauses Replaces r.fields p.replaces ∥₁

-- a package for each record, in the records' order
abbrev pub ArePackagesIn : Option (List ℕ) → List Record → List Package → Type 0
ArePackagesIn root [] [] = Unit {0}
ArePackagesIn root [] (p ∷ ps) = ⊥
ArePackagesIn root (r ∷ rs) [] = ⊥
ArePackagesIn root (r ∷ rs) (p ∷ ps) = IsPackageOf root r p × ArePackagesIn root rs ps

abbrev pub ArePackagesOf : List Record → List Package → Type 0
ArePackagesOf records packages = ArePackagesIn (root_architecture records) records packages
