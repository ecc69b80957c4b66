-- The triggers of one package, processed and brought to the disk: what was done, and what its unit answers.
use Rattle.std.specs.Prelude.{◌≡◌, ◌⊎◌, ℕ, List, [], ◌∷◌, ◌++◌, Option, Some, None}
use Rattle.host_core.specs.Events.{Did, Event, scripts_of}
use Rattle.host_core.specs.Host.{Happens, Needs, Silent, State, AtEachMomentOf}
use Rattle.host_core.specs.Loss.{IsAnswered}
use Rattle.host_core.specs.World.{World, Barrier}
use Rattle.host_core.specs.declared.call.Call.{Call}
use Rattle.held_administration.specs.Order.{IsInOrder}
use Rattle.status_records.specs.Records.{record_in}
use Rattle.status_records.specs.declared.record.Record.{Record}
use Rattle.undo_rows.specs.declared.failure.Failure.TheVariants.{OfCall}
use Rattle.undo_rows.specs.declared.rows.Called.{Called}
use Rattle.unit_reports.specs.Held.{Held}
use Rattle.unit_reports.specs.Units.{HasNoCalls, IsBroken, IsRefusedUnit, TellsNoPackage, touched_at}
use Rattle.unit_reports.specs.declared.refusal.Rule.TheVariants.{Unknown}
use Rattle.unit_reports.specs.declared.report.Reply.{Reply}
use Rattle.unit_reports.specs.declared.report.Reply.TheVariants.{Done, Failed}
use Rattle.unit_reports.specs.declared.report.Unit.{Unit as AUnit}
use Rattle.unit_runs.specs.Turns.{IsStill}
use Rattle.unit_stages.specs.Holding.{Holding}
use Rattle.trigger_engine.specs.Units.{Given, HasCalled, HasEnded, HasProcessed, IsAmidUnit, given}
use Rattle.trigger_run.specs.Needs.{IsLetBe, IsReady}

-- the records and lists of what is held
abbrev pub holding_of : Held → Holding
holding_of h = record { records = h.records.records; lists = h.lists }

-- a package whose triggers are to be processed, and what is held
abbrev pub given_by : List ℕ → Held → Given
given_by name h = given name h.ways (holding_of h)

-- the reply to a unit of a package, by the call for which it failed
abbrev pub reply_to : List ℕ → Option Call → Reply
reply_to name None = Done
reply_to name (Some call) = Failed (record { «package» = name; cause = OfCall call })

-- how a unit answers: it tells the package with its record
pub record Answers (name : List ℕ) (records : List Record) (failed : Option Call) (u : AUnit) : Type 0 where
  pub replied : u.reply ≡ reply_to name failed
  pub touched : u.touched.items ≡ touched_at records name ∷ []
  pub deconfigured : u.deconfigured ≡ []

-- the triggers were processed, or that failed; then all was brought to the disk
pub record IsBroughtToDisk (name : List ℕ) (before : Held) (failed : Option Call) (after : Held) (s t : State) (told now : List Called) : Type 0 where
  pub m : State
  pub processed : HasProcessed (given_by name before) failed (holding_of after) s m told now
  pub disk : Happens (Did Barrier ∷ []) m t

-- So it was, the administration is in order, and the unit answers that. The package is installed without pending names then, or
-- half-configured where its postinst failed; no other record has changed.
pub record IsProcessing (name : List ℕ) (before after : Held) (u : AUnit) (s t : State) : Type 0 where
  pub failed : Option Call
  pub processed : IsBroughtToDisk name before failed after s t [] u.calls.items
  pub ended : HasEnded name failed before.records.records after.records.records
  pub order : Needs t (IsInOrder after.records after.lists)
  pub ways : after.ways ≡ before.ways
  pub answers : Answers name after.records.records failed u

-- At each moment of it nothing is done yet, or it is under way, and behind that nothing but the disk was called.
pub record IsAmidProcessing (name : List ℕ) (before : Held) (old : World) (so_far : List Event) (now : World) : Type 0 where
  pub front : List Event
  pub quiet : List Event
  pub split : so_far ≡ front ++ quiet
  pub silent : scripts_of quiet ≡ []
  pub amid : IsAmidUnit (given_by name before) old front now

-- its calls, whatever its end: the first of those that it may make
pub record HasCalledProcessing (name : List ℕ) (before : Held) (s t : State) (told now : List Called) : Type 0 where
  pub m : State
  pub called : HasCalled (given_by name before) s m told now
  pub silent : Silent m t

-- It goes from one moment of the host to a later one; at each moment between them it is under way, and in the end all of it is on the
-- disk.
pub record RunsProcessing (name : List ℕ) (before after : Held) (u : AUnit) (s t : State) : Type 0 where
  pub is : IsProcessing name before after u s t
  pub moments : AtEachMomentOf (IsAmidProcessing name before) s t
  pub answered : IsAnswered s t

-- The unit of a name for which nothing is to be done: it tells the package with its record; a package without a record isn't known.
abbrev pub IsQuietUnit : Option Record → List ℕ → List Record → AUnit → Type 0
IsQuietUnit None name records u = IsRefusedUnit Unknown name u
IsQuietUnit (Some r) name records u = Answers name records None u × (u.calls.items ≡ [])

-- The unit of a name, by the records as the units before it left them: where the package has triggers to process, and what it needs is
-- there, these are processed; else nothing is done, and triggers that are pending stay so.
pub data IsUnitOf (name : List ℕ) (before after : Held) (u : AUnit) (s t : State) : Type 0 where
  processed : IsReady before.records.records name → RunsProcessing name before after u s t → IsUnitOf name before after u s t
  passed_over : IsLetBe before.records.records name → IsQuietUnit (record_in before.records.records name) name before.records.records u → after ≡ before → t ≡ s → IsUnitOf name before after u s t

-- at each moment of the unit of a name: nothing is done, or triggers that are to be processed are
abbrev pub IsAmidUnitOf : List ℕ → Held → World → List Event → World → Type 0
IsAmidUnitOf name before old so_far now = IsStill old so_far now ⊎ (IsReady before.records.records name × IsAmidProcessing name before old so_far now)

-- its calls, whatever its end: none, or the first of those by which triggers that are to be processed are
abbrev pub HasCalledUnitOf : List ℕ → Held → State → State → AUnit → Type 0
HasCalledUnitOf name before s t u = HasNoCalls u s t ⊎ (IsReady before.records.records name × HasCalledProcessing name before s t [] u.calls.items)

-- the unit of a name where it was broken off: it tells no package
pub record IsBrokenOff (name : List ℕ) (before : Held) (u : AUnit) (s t : State) : Type 0 where
  pub broken : IsBroken u.reply
  pub untouched : TellsNoPackage u
  pub called : HasCalledUnitOf name before s t u
