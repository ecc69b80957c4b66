-- Which packages' control files have names with an architecture, and the two names of each.
use Rattle.std.specs.Prelude.{◌≡◌, ◌⊎◌, false, true, ℕ, List, ◌∷◌, ◌++◌, Option, Some, None, Contains}
use Rattle.texts.specs.PackageNames.{is_package_name}
use Rattle.host_core.specs.Paths.{Path, is_path}
use Rattle.file_lists.specs.Info.{entry_path}
use Rattle.info_format.specs.Names.{Architectures, AreTwo, architecture_of, architectures, is_ending, long_front}
use Rattle.info_format.specs.declared.naming.Qualified.{Qualified}
use Rattle.info_format.specs.declared.pairs.Pair.{Pair}
use Rattle.status_records.specs.declared.record.Record.{Record}

-- a package with its architecture
pub record IsQualified (arches : Architectures) (q : Qualified) : Type 0 where
  pub architecture : List ℕ
  pub of : arches q.name ≡ Some architecture
  pub named : is_package_name q.name ≡ true
  pub called : is_package_name architecture ≡ true
  pub front_is : q.front ≡ long_front q.name architecture

-- what was found by a record: its package, or that its names have no architecture
abbrev pub IsQualifiedBy : Record → Option Qualified → Type 0
IsQualifiedBy r None = architecture_of r ≡ None
IsQualifiedBy r (Some q) = (q.name ≡ r.name) × ((architecture : List ℕ) × (architecture_of r ≡ Some architecture) × (q.front ≡ long_front r.name architecture))

-- the same, by the record of a name
abbrev pub IsQualifiedIn : List Record → List ℕ → Option Qualified → Type 0
IsQualifiedIn table name None = architectures table name ≡ None
IsQualifiedIn table name (Some q) = (q.name ≡ name) × IsQualified (architectures table) q

-- all of them
pub record AreQualified (arches : Architectures) (found : List Qualified) : Type 0 where
  pub sound : (q : Qualified) → Contains found q → IsQualified arches q
  pub whole : (name architecture : List ℕ) → arches name ≡ Some architecture → Contains found (record { name = name; front = long_front name architecture })

-- an entry is a control file of this package, with or without the architecture in its name, and ends so
abbrev pub IsEntryOf : Qualified → Path → Path → Type 0
IsEntryOf q entry ending = (is_ending ending ≡ true) × ((entry ≡ q.name ++ 46 ∷ ending) ⊎ (entry ≡ q.front ++ 46 ∷ ending))

-- these are the two names of what ends so, and both make paths
pub record IsPairOf (q : Qualified) (ending : Path) (p : Pair) : Type 0 where
  pub long_is : p.long ≡ entry_path (q.front ++ 46 ∷ ending)
  pub short_is : p.short ≡ entry_path (q.name ++ 46 ∷ ending)
  pub long_fits : is_path p.long ≡ true
  pub short_fits : is_path p.short ≡ true

-- both names of what ends so, if both make paths
abbrev pub IsPairIn : Qualified → Path → Option Pair → Type 0
IsPairIn q ending None = (is_path (entry_path (q.front ++ 46 ∷ ending)) ≡ false) ⊎ (is_path (entry_path (q.name ++ 46 ∷ ending)) ≡ false)
IsPairIn q ending (Some p) = IsPairOf q ending p

-- the same, of an entry that is a control file of this package
abbrev pub IsPairAt : Qualified → Path → Option Pair → Type 0
IsPairAt q entry None = (ending : Path) → IsEntryOf q entry ending → IsPairIn q ending None
IsPairAt q entry (Some p) = (ending : Path) × IsEntryOf q entry ending × IsPairOf q ending p

-- pairs were added: each is of an entry of this package, and each entry with such a pair has it there
pub record HasPairs (q : Qualified) (entries : List Path) (old new : List Pair) : Type 0 where
  pub before : (p : Pair) → Contains old p → Contains new p
  pub sound : (p : Pair) → Contains new p → Contains old p ⊎ ((ending : Path) × (is_ending ending ≡ true) × IsPairOf q ending p)
  pub whole : (entry ending : Path) → Contains entries entry → IsEntryOf q entry ending → (p : Pair) → IsPairOf q ending p → Contains new p

-- The names of these entries, each with its other one: those that are control files of such packages.
pub record ArePairs (arches : Architectures) (entries : List Path) (pairs : List Pair) : Type 0 where
  pub sound : (p : Pair) → Contains pairs p → AreTwo arches p.long p.short
  pub whole : (long short : Path) → AreTwo arches long short → (entry : Path) → Contains entries entry → (entry_path entry ≡ long) ⊎ (entry_path entry ≡ short) → Contains pairs (record { long = long; short = short })
