-- Whether what a package needs is there when its triggers would be processed (Policy 7.2): where it isn't, they wait.
use Rattle.std.specs.Prelude.{◌≡◌, ◌<◌, ◌⊎◌, ℕ, Bool, false, List, length, map, slice_index_or}
use Rattle.dependency_check.specs.Left.{IsFirstUnmet}
use Rattle.dependency_check.specs.declared.left.UnmetClause.{UnmetClause}
use Rattle.dependency_sets.specs.Sets.{has}
use Rattle.recorded_packages.specs.Packages.{ArePackagesOf}
use Rattle.relation_index.specs.declared.package.Package.{Package}
use Rattle.status_records.specs.Triggers.{is_configured}
use Rattle.status_records.specs.declared.record.Record.{Record}
use Rattle.trigger_engine.specs.Units.{IsPending}
use Rattle.trigger_run.specs.Pending.{is_pending_in}

-- An installed package meets what others need, also one that has triggers to process; one that awaits some doesn't yet
-- (deb-triggers). So it is where packages are configured.
abbrev pub satisfies : Record → Bool
satisfies r = is_configured r.state r.triggers

-- these records' packages that do, by their numbers
abbrev pub supply : List Record → ℕ → Bool
supply records = has (map satisfies records)

-- the package has a clause, of Pre-Depends or of Depends, that none of the set meets
abbrev pub HasUnmet : List Package → (ℕ → Bool) → Package → Type 0
HasUnmet packages S p = (unmet : UnmetClause) × IsFirstUnmet packages p S unmet

-- the package of this number is of this name, and has such a clause
abbrev pub LacksAt : List Package → (ℕ → Bool) → List ℕ → ℕ → Type 0
LacksAt packages S name x = (p : Package) × (x < length packages) × (slice_index_or packages x p ≡ p) × (p.name ≡ name) × HasUnmet packages S p

-- the package of this name does
abbrev pub Lacks : List Package → (ℕ → Bool) → List ℕ → Type 0
Lacks packages S name = (x : ℕ) × LacksAt packages S name x

-- by these records what the package of this name needs isn't there
abbrev pub IsLacking : List Record → List ℕ → Type 0
IsLacking records name = (packages : List Package) × ArePackagesOf records packages × Lacks packages (supply records) name

-- all of it is
abbrev pub IsSupplied : List Record → List ℕ → Type 0
IsSupplied records name = (packages : List Package) × ArePackagesOf records packages × (Lacks packages (supply records) name → ⊥)

-- its triggers are to be processed: some are pending, and what it needs is there
pub record IsReady (records : List Record) (name : List ℕ) : Type 0 where
  pub pending : IsPending records name
  pub supplied : IsSupplied records name

-- they wait for what it needs
pub record IsHeldUp (records : List Record) (name : List ℕ) : Type 0 where
  pub pending : IsPending records name
  pub lacking : IsLacking records name

-- nothing is to be done for it: none is pending, or they wait
abbrev pub IsLetBe : List Record → List ℕ → Type 0
IsLetBe records name = (is_pending_in records name ≡ false) ⊎ IsHeldUp records name
