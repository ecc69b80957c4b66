-- The units of some names, while they are taken.
use Rattle.std.specs.Prelude.{◌≡◌, ℕ, List, []}
use Rattle.diversions.specs.Diverted.{Diverted}
use Rattle.held_administration.specs.declared.held.Administration.{Administration}
use Rattle.recorded_packages.specs.Packages.{ArePackagesOf}
use Rattle.unit_reports.specs.Held.{Held}
use Rattle.trigger_run.specs.declared.turns.Processing.{Processing}

-- what stays the same over them
abbrev pub task_of : Processing → Diverted
task_of p = p.diversions.now

-- the names that are left
abbrev pub left_of : Processing → List (List ℕ)
left_of p = p.names.items

-- between them the packages are those of the records
abbrev pub IsBetween : Processing → Administration → Type 0
IsBetween p a = ArePackagesOf a.database.records p.packages

-- no name is left
abbrev pub IsOver : Processing → List (List ℕ) → Held → Type 0
IsOver p names held = names ≡ []
