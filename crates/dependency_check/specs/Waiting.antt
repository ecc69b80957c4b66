-- Packages that wait to be configured or removed, while results come in (Policy 6.7, 6.8, 7.2).
use Rattle.std.specs.Prelude.{ℕ, Bool, true, false, List, Option, slice_set, IsTrue, ◌↔◌, MatchOption}
use Rattle.dependency_sets.specs.Sets.{has}
use Rattle.relation_index.specs.declared.package.Package.{Package}
use Rattle.dependency_check.specs.Queues.{CanBeConfigured, CanBeRemoved, IsConfiguredNext, IsRemovedNext}

-- all packages, and which of these are installed and which wait now
pub record Waiting : Type 0 where
  pub packages : List Package
  pub installed : List Bool
  pub waiting : List Bool

abbrev pub IsConfigurableNow : Waiting → ℕ → Type 0
IsConfigurableNow q x = CanBeConfigured q.packages (has q.installed) (has q.waiting) x

abbrev pub IsRemovableNow : Waiting → ℕ → Type 0
IsRemovableNow q x = CanBeRemoved q.packages (has q.installed) (has q.waiting) x

-- one was configured: it is installed, and waits no longer
abbrev pub with_configured : ℕ → Waiting → Waiting
with_configured x q = record { packages = q.packages; installed = slice_set q.installed x true; waiting = slice_set q.waiting x false }

-- one was refused or failed
abbrev pub without_failed : ℕ → Waiting → Waiting
without_failed x q = record { packages = q.packages; installed = q.installed; waiting = slice_set q.waiting x false }

-- one was removed: it isn't installed, and waits no longer
abbrev pub with_removed : ℕ → Waiting → Waiting
with_removed x q = record { packages = q.packages; installed = slice_set q.installed x false; waiting = slice_set q.waiting x false }

-- the next of the configurable set
abbrev pub IsNextOfConfigurable : Waiting → (ℕ → Bool) → Option ℕ → Type 0
IsNextOfConfigurable q silent next = (members : ℕ → Bool) → ((x : ℕ) → IsTrue (members x) ↔ IsConfigurableNow q x) → MatchOption next ((x : ℕ) → IsTrue (members x) → ⊥) (IsConfiguredNext q.packages (has q.installed) members silent)

-- the next of the removable set
abbrev pub IsNextOfRemovable : Waiting → Option ℕ → Type 0
IsNextOfRemovable q next = (members : ℕ → Bool) → ((x : ℕ) → IsTrue (members x) ↔ IsRemovableNow q x) → MatchOption next ((x : ℕ) → IsTrue (members x) → ⊥) (IsRemovedNext q.packages (has q.installed) members)
