-- The packages as numbers, and which of them wait and call no script, when configuring begins.
use Rattle.std.specs.Prelude.{◌≡◌, ◌<◌, ◌&&◌, not, true, ℕ, Bool, IsTrue, List, [], length, map, is_some, slice_index_or}
use Rattle.std.specs.List.{list_any}
use Rattle.std.specs.Str.{bytes_eq}
use Rattle.administration.specs.Places.{script_path}
use Rattle.configure_engine.specs.Units.{IsWaiting}
use Rattle.dependency_check.specs.Waiting.{Waiting}
use Rattle.dependency_sets.specs.Sets.{has}
use Rattle.host_core.specs.World.{World}
use Rattle.host_core.specs.declared.call.Script.TheVariants.{Postinst}
use Rattle.recorded_packages.specs.Packages.{ArePackagesOf}
use Rattle.relation_index.specs.declared.package.Package.{Package}
use Rattle.status_records.specs.Records.{record_in}
use Rattle.status_records.specs.Triggers.{is_configured}
use Rattle.status_records.specs.declared.record.Record.{Record}
use Rattle.configure_run.specs.Asked.{can_wait}

abbrev pub is_named : List (List ℕ) → Record → Bool
is_named names r = list_any (bytes_eq r.name) names

-- the package is named and can wait
abbrev pub waits : List (List ℕ) → Record → Bool
waits names r = can_wait r && is_named names r

-- An installed package meets what others need, also one that has triggers to process; one that awaits some doesn't yet
-- (deb-triggers).
abbrev pub satisfies : Record → Bool
satisfies r = is_configured r.state r.triggers

-- Each package has the number of its record. Installed are those that meet what others need, and waiting those whose records
-- say so.
pub record IsBegun (names : List (List ℕ)) (records : List Record) (q : Waiting) : Type 0 where
  pub packages : ArePackagesOf records q.packages
  pub installed : q.installed ≡ map satisfies records
  pub waiting : q.waiting ≡ map (waits names) records

-- the name of the package of a number
abbrev pub name_at : List Package → ℕ → List ℕ
name_at packages x = slice_index_or (map (λ p. p.name) packages) x []

-- the package calls no script when it is configured
abbrev pub is_silent : World → List ℕ → Bool
is_silent w name = not (is_some (w (script_path name Postinst)))

-- the record of a number
pub record IsAt (records : List Record) (x : ℕ) (r : Record) : Type 0 where
  pub within : x < length records
  pub here : slice_index_or records x r ≡ r

-- the same by their records
abbrev pub AreSilentOf : World → List (List ℕ) → List Record → List Bool → Type 0
AreSilentOf w names records silent = (x : ℕ) (r : Record) → IsAt records x r → waits names r ≡ true → has silent x ≡ is_silent w r.name

-- of those that wait, these have no postinst in this world
abbrev pub AreSilent : World → Waiting → (ℕ → Bool) → Type 0
AreSilent w q silent = (x : ℕ) → IsTrue (has q.waiting x) → silent x ≡ is_silent w (name_at q.packages x)

-- as many marks as packages
pub record IsEven (q : Waiting) : Type 0 where
  pub installed : length q.installed ≡ length q.packages
  pub waiting : length q.waiting ≡ length q.packages

-- no two packages have one name
abbrev pub AreNamedApart : List Package → Type 0
AreNamedApart packages = (x y : ℕ) → x < length packages → y < length packages → name_at packages x ≡ name_at packages y → x ≡ y

-- the record of each package that waits says so
abbrev pub AreWaiting : Waiting → List Record → Type 0
AreWaiting q records = (x : ℕ) → IsTrue (has q.waiting x) → IsWaiting records (name_at q.packages x)

-- a package of this name waits
pub record NamesOneWaiting (q : Waiting) (name : List ℕ) : Type 0 where
  pub x : ℕ
  pub waiting : IsTrue (has q.waiting x)
  pub named : name_at q.packages x ≡ name

-- what is recorded of each name that doesn't wait is what was recorded before
abbrev pub AreSameButWaiting : Waiting → List Record → List Record → Type 0
AreSameButWaiting q before after = (name : List ℕ) → (NamesOneWaiting q name → ⊥) → record_in after name ≡ record_in before name
