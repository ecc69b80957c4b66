-- The packages that wait to be removed, among all that are recorded, and the next of them (Policy 6.8, 7.2).
use Rattle.std.specs.Prelude.{◌≡◌, ℕ, Bool, false, List, [], Option, Some, None, map, length, slice_index_or}
use Rattle.dependency_check.specs.Waiting.{Waiting}
use Rattle.relation_index.specs.declared.package.Package.{Package}
use Rattle.status_records.specs.Records.{record_in}
use Rattle.status_records.specs.Words.{is_installed}
use Rattle.status_records.specs.declared.record.Record.{Record}
use Rattle.name_sets.specs.Names.{is_among}
use Rattle.removal_run.specs.Whose.{IsWhoseTurn}

-- a package without a record isn't installed
abbrev pub is_installed_by : Option Record → Bool
is_installed_by None = false
is_installed_by (Some r) = is_installed r.state

-- a package of this name is recorded as installed
abbrev pub is_installed_in : List Record → List ℕ → Bool
is_installed_in records name = is_installed_by (record_in records name)

-- this package is
abbrev pub is_installed_now : List Record → Package → Bool
is_installed_now records p = is_installed_in records p.name

-- the package has one of these names
abbrev pub is_named : List (List ℕ) → Package → Bool
is_named names p = is_among names p.name

-- The queue at a moment: the packages with what they stated when the command began, of which those are installed that are
-- recorded so now, and those wait whose names are left. Only packages that are installed or wait count in a queue, and none of
-- these states anything else meanwhile: so it is the queue of the packages as they are recorded now.
pub record IsQueueNow (packages : List Package) (now : List Record) (names : List (List ℕ)) (q : Waiting) : Type 0 where
  pub stated : q.packages ≡ packages
  pub installed : q.installed ≡ map (is_installed_now now) q.packages
  pub waiting : q.waiting ≡ map (is_named names) q.packages

-- a package has a mark in both sets
pub record IsEven (q : Waiting) : Type 0 where
  pub installed : length q.installed ≡ length q.packages
  pub waiting : length q.waiting ≡ length q.packages

-- the name of the package of this number
abbrev pub name_at : List Package → ℕ → List ℕ
name_at packages x = slice_index_or (map (λ p. p.name) packages) x []

-- of the names that are left, the one whose package is removed next
pub record IsRemovedNext (ignore_depends : Bool) (packages : List Package) (now : List Record) (names : List (List ℕ)) (name : List ℕ) : Type 0 where
  pub queue : Waiting
  pub is : IsQueueNow packages now names queue
  pub number : ℕ
  pub next : IsWhoseTurn ignore_depends queue number
  pub named : name ≡ name_at queue.packages number
