-- Packages brought up to date, where the records of some names may have changed.
use Rattle.std.specs.Prelude.{◌≡◌, ℕ, List, Option, Some, None, if◌then◌else◌}
use Rattle.std.specs.List.{Contains, list_any}
use Rattle.std.specs.Str.{bytes_eq}
use Rattle.relation_index.specs.Packages.{drop_package, put_package}
use Rattle.relation_index.specs.declared.package.Package.{Package}
use Rattle.status_db.specs.Order.{AreInOrder}
use Rattle.status_records.specs.Records.{record_in}
use Rattle.status_records.specs.declared.record.Record.{Record}
use Rattle.recorded_packages.specs.Packages.{IsPackageOf, ArePackagesIn}

-- the records of all other names are the same
abbrev pub AreSameBut : List (List ℕ) → List Record → List Record → Type 0
AreSameBut names before after = (q : List ℕ) → (Contains names q → ⊥) → record_in after q ≡ record_in before q

-- the package of a name as its record tells of it, or none where there is no record
abbrev pub IsRenewedBy : Option (List ℕ) → Option Record → List ℕ → List Package → List Package → Type 0
IsRenewedBy root None name old new = new ≡ drop_package name old
IsRenewedBy root (Some r) name old new = (p : Package) × IsPackageOf root r p × (new ≡ put_package p old)

abbrev pub IsRenewed : Option (List ℕ) → List Record → List ℕ → List Package → List Package → Type 0
IsRenewed root records name old new = IsRenewedBy root (record_in records name) name old new

-- the packages are those of a table that has the records of these names as they are now, and the others as before
pub record AreUpToDate (root : Option (List ℕ)) (records before : List Record) (names : List (List ℕ)) (packages : List Package) : Type 0 where
  pub table : List Record
  pub order : AreInOrder table
  pub packages_are : ArePackagesIn root table packages
  pub look_up : (q : List ℕ) → record_in table q ≡ (if list_any (λ name. bytes_eq name q) names then record_in records q else record_in before q)
