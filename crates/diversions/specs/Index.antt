-- A table under its paths, and what its targets are.
use Rattle.std.specs.Prelude.{◌≡◌, Bool, List, map, ℕ}
use Rattle.std.specs.List.{AllByRecursion}
use Rattle.host_core.specs.Paths.{Path}
use Rattle.diversions.specs.declared.entry.Diversion.{Diversion}
use Rattle.diversions.specs.Entries.{IsTable, is_target}

-- without their keys
abbrev pub entries_of : {K : Type 0} → List (K × Diversion) → List Diversion
entries_of pairs = map (λ e. e.1) pairs

-- each entry under its path; a path is in the set of targets where it is one
pub record IsIndex {K : Type 0} (key : K → List ℕ) (pairs : List (K × Diversion)) (targets : Path → Bool) : Type 0 where
  pub keyed : AllByRecursion (λ e. key e.0 ≡ e.1.path) pairs
  pub table : IsTable (entries_of pairs)
  pub aimed : (q : Path) → targets q ≡ is_target (entries_of pairs) q
