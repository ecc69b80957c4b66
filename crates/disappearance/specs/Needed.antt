-- Whether a package is needed: the unpacked one counts as installed (Policy 6.6, 7.2).
use Rattle.std.specs.Prelude.{◌≡◌, ◌<◌, ◌||◌, ℕ, Bool, true, false, List, length, slice_index_or}
use Rattle.std.specs.Str.{bytes_eq}
use Rattle.dependency_check.specs.Left.{DependsOnLeft}
use Rattle.recorded_packages.specs.Packages.{ArePackagesOf}
use Rattle.relation_index.specs.Packages.{is_installed, those}
use Rattle.relation_index.specs.declared.package.Package.{Package}
use Rattle.status_records.specs.declared.record.Record.{Record}

abbrev pub is_called : List ℕ → Package → Bool
is_called name p = bytes_eq p.name name

-- installed, or the unpacked one
abbrev pub is_supplied : (incoming : List ℕ) → Package → Bool
is_supplied incoming p = is_installed p || is_called incoming p

-- the package of this number has this name
abbrev pub HasNumber : List Package → List ℕ → ℕ → Type 0
HasNumber packages name x = (p : Package) × (x < length packages) × (slice_index_or packages x p ≡ p) × (p.name ≡ name)

-- y, another one that counts as installed, has a clause of Depends or Pre-Depends which the package of this name and number meets, and
-- which no other one that counts as installed does
abbrev pub NeedsIt : (incoming : List ℕ) → List Package → (name : List ℕ) → ℕ → ℕ → Type 0
NeedsIt incoming packages name x y = DependsOnLeft packages (those (is_supplied incoming) packages) (those (is_called name) packages) x y

-- one of the recorded packages needs this one
pub record IsNeeded (incoming : List ℕ) (records : List Record) (name : List ℕ) : Type 0 where
  pub packages : List Package
  pub recorded : ArePackagesOf records packages
  pub number : ℕ
  pub numbered : HasNumber packages name number
  pub by : ℕ
  pub needs : NeedsIt incoming packages name number by

-- none of them does
pub record IsUnneeded (incoming : List ℕ) (records : List Record) (name : List ℕ) : Type 0 where
  pub packages : List Package
  pub recorded : ArePackagesOf records packages
  pub number : ℕ
  pub numbered : HasNumber packages name number
  pub none : (y : ℕ) → NeedsIt incoming packages name number y → ⊥

abbrev pub IsNeedOf : (incoming : List ℕ) → List Record → List ℕ → Bool → Type 0
IsNeedOf incoming records name true = IsNeeded incoming records name
IsNeedOf incoming records name false = IsUnneeded incoming records name
