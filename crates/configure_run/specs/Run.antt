-- A configure of packages: those refused at once, then turns, then those left over.
use Rattle.std.specs.Prelude.{◌≡◌, ℕ, Bool, IsTrue, List, ◌++◌, Option, IfSome}
use Rattle.dependency_check.specs.Waiting.{Waiting}
use Rattle.host_core.specs.Events.{Event}
use Rattle.host_core.specs.Host.{State, Reads, Silent}
use Rattle.host_core.specs.World.{World}
use Rattle.unit_reports.specs.Held.{Held}
use Rattle.unit_reports.specs.declared.report.Unit.{Unit as AUnit}
use Rattle.unit_runs.specs.Turns.{IsStill}
use Rattle.name_sets.specs.Names.{each_once}
use Rattle.configure_run.specs.Early.{AreRefused, AreSomeRefused, early_refusals}
use Rattle.configure_run.specs.Starting.{AreSilent, IsBegun}
use Rattle.configure_run.specs.Turns.{EndTurns, IsAmidTurns, IsBrokenStill, StopTurns}
use Rattle.configure_run.specs.declared.options.ConfigureOptions.{ConfigureOptions}

-- Those refused at once are the first units, and it was looked which of the packages that wait have no postinst: so the turns begin.
pub record Begins (names : List (List ℕ)) (before : Held) (silent : ℕ → Bool) (start : Waiting) (s looked : State) : Type 0 where
  pub begun : IsBegun names before.records.records start
  pub looks : Reads s looked
  pub quiet : Silent s looked
  pub seen : IsTrue looked.honest → AreSilent s.world start silent

-- each name is refused at once that can't wait
abbrev pub AreRefusedFirst : List (List ℕ) → Held → List AUnit → Type 0
AreRefusedFirst names before first = AreRefused (early_refusals before.records.records (each_once names)) first

-- all units of a configure
pub record IsConfigureRun (names : List (List ℕ)) (options : ConfigureOptions) (us : List AUnit) (before after : Held) (s t : State) : Type 0 where
  pub first : List AUnit
  pub refused : AreRefusedFirst names before first
  pub silent : ℕ → Bool
  pub start : Waiting
  pub looked : State
  pub begins : Begins names before silent start s looked
  pub turns : EndTurns options silent start before looked first us after t

-- How far a configure came that may have been broken off: what the units before did stands, and since then only the next turn was
-- under way.
pub data HasRun (names : List (List ℕ)) (options : ConfigureOptions) (us : List AUnit) (last : Option AUnit) (before : Held) (s t : State) : Type 0 where
  refusing : AreSomeRefused (early_refusals before.records.records (each_once names)) us → Reads s t → IfSome last (IsBrokenStill s t)
      → HasRun names options us last before s t
  turning : (first : List AUnit) → AreRefusedFirst names before first → (silent : ℕ → Bool) (start : Waiting) (looked : State) → Begins names before silent start s looked
      → StopTurns options silent start before looked first us last t → HasRun names options us last before s t

-- At each moment of a configure: nothing has changed yet; or some turns were taken, and the next is under way.
pub data IsAmidRun (names : List (List ℕ)) (options : ConfigureOptions) (before : Held) (s : State) (so_far : List Event) (now : World) : Type 0 where
  beginning : IsStill s.world so_far now → IsAmidRun names options before s so_far now
  turning : (silent : ℕ → Bool) (start : Waiting) (looked : State) (front rest : List Event) → IsTrue looked.honest → Begins names before silent start s looked → looked.events ≡ s.events ++ front
      → so_far ≡ front ++ rest → IsAmidTurns options silent start before looked rest now → IsAmidRun names options before s so_far now
