-- The removals of a command, while they are taken.
use Rattle.std.specs.Prelude.{◌≡◌, ℕ, IsTrue, List, [], Option, Some, None}
use Rattle.diversions.specs.Diverted.{Diverted}
use Rattle.dependency_check.specs.Waiting.{Waiting}
use Rattle.dependency_sets.specs.Sets.{has}
use Rattle.held_administration.specs.declared.held.Administration.{Administration}
use Rattle.relation_index.specs.declared.package.Package.{Package}
use Rattle.status_records.specs.declared.record.Record.{Record}
use Rattle.unit_reports.specs.Held.{Held}
use Rattle.name_sets.specs.Names.{without}
use Rattle.removal_run.specs.Next.{IsNothing}
use Rattle.removal_run.specs.Turns.{AreAccepted}
use Rattle.removal_run.specs.Units.{AreOthersKept}
use Rattle.removal_run.specs.Waiting.{IsQueueNow, name_at}
use Rattle.removal_run.specs.declared.options.RemovalOptions.{RemovalOptions}
use Rattle.removal_run.specs.declared.turns.Removing.{Removing}

-- the queue of before the removal of the package of this number, which waited
pub record IsQueueBefore (packages : List Package) (now : List Record) (names : List (List ℕ)) (q : Waiting) (x : ℕ) : Type 0 where
  pub before : List Record
  pub waited : List (List ℕ)
  pub is : IsQueueNow packages before waited q
  pub waits : IsTrue (has q.waiting x)
  pub others : AreOthersKept (name_at q.packages x) before now
  pub struck : names ≡ without (name_at q.packages x) waited

-- the queue of this moment, or that of before a removal
abbrev pub IsQueueTo : List Package → List Record → List (List ℕ) → Waiting → Option ℕ → Type 0
IsQueueTo packages now names q None = IsQueueNow packages now names q
IsQueueTo packages now names q (Some x) = IsQueueBefore packages now names q x

-- what stays the same over the removals
pub record Task : Type 0 where
  pub options : RemovalOptions
  pub packages : List Package
  pub diverted : Diverted

abbrev pub packages_in : Option Waiting → List Package
packages_in None = []
packages_in (Some q) = q.packages

abbrev pub task_of : Removing → Task
task_of r = record { options = r.options; packages = packages_in r.queue; diverted = r.diversions.now }

-- the names that wait
abbrev pub names_of : Removing → List (List ℕ)
names_of r = r.waiting.items

-- between removals the queue is there, and no rule refuses a name that waits
pub record IsBetween (r : Removing) (a : Administration) : Type 0 where
  pub queue : Waiting
  pub here : r.queue ≡ Some queue
  pub is : IsQueueTo queue.packages a.database.records r.waiting.items queue r.removed
  pub accepted : AreAccepted r.options.extents a.database.records r.waiting.items

-- nothing that waits can be removed
pub record IsOver (r : Removing) (names : List (List ℕ)) (held : Held) : Type 0 where
  pub queue : Waiting
  pub here : r.queue ≡ Some queue
  pub same : r.waiting.items ≡ names
  pub nothing : IsNothing r.options.ignore_depends queue.packages held.records.records names queue
