-- The unit that processes the triggers of a package, from the world that it finds to the one that it leaves, and each moment of it
-- (deb-triggers).
use Rattle.std.specs.Prelude.{◌≡◌, ◌≢◌, ◌⊎◌, ℕ, Bool, true, IsTrue, List, [], Option, Some, None, is_some}
use Rattle.host_core.specs.World.{World}
use Rattle.host_core.specs.Events.{Event, scripts_of}
use Rattle.host_core.specs.Host.{State, Silent}
use Rattle.host_core.specs.declared.call.Call.{Call}
use Rattle.host_core.specs.declared.call.Script.TheVariants.{Postinst}
use Rattle.administration.specs.Places.{script_path}
use Rattle.undo_rows.specs.Telling.{Begun}
use Rattle.undo_rows.specs.declared.rows.Called.{Called}
use Rattle.diversions.specs.Ways.{Ways}
use Rattle.status_records.specs.Records.{record_in}
use Rattle.status_records.specs.Standings.{configured}
use Rattle.status_records.specs.declared.record.Record.{Record}
use Rattle.status_records.specs.declared.words.State.TheVariants.{Installed}
use Rattle.unit_stages.specs.Calls.{MayRunStages}
use Rattle.unit_stages.specs.Holding.{Holding}
use Rattle.unit_stages.specs.Running.{AreRunning}
use Rattle.unit_stages.specs.Runs.{HaveRun}
use Rattle.unit_stages.specs.declared.stage.Stage.{Stage}
use Rattle.trigger_engine.specs.Stages.{AreTriggerStages, half}

-- an installed package that has triggers to process has this record
pub record IsPending (records : List Record) (name : List ℕ) : Type 0 where
  pub entry : Record
  pub found : record_in records name ≡ Some entry
  pub state : entry.state ≡ Installed
  pub names : List ℕ
  pub pending : entry.triggers.pending ≡ Some names

-- The stages for this record, by whether the postinst is stored in this world.
pub record IsPlanFor (r : Record) (w : World) (honest : Bool) (stages : List Stage) : Type 0 where
  pub stored : Bool
  pub seen : IsTrue honest → stored ≡ is_some (w (script_path r.name Postinst))
  pub stages_are : AreTriggerStages r stored stages

-- what a unit finds: the name of its package, the diversions, and the records and lists
pub record Given : Type 0 where
  pub name : List ℕ
  pub ways : Ways
  pub before : Holding

abbrev pub given : List ℕ → Ways → Holding → Given
given name ways before = record { name = name; ways = ways; before = before }

-- the stages of the package's record
pub record IsPlanOf (g : Given) (w : World) (honest : Bool) (stages : List Stage) : Type 0 where
  pub entry : Record
  pub found : record_in g.before.records g.name ≡ Some entry
  pub plan : IsPlanFor entry w honest stages

-- The whole unit: it is planned, and then the stages are run.
pub record HasProcessed (g : Given) (failed : Option Call) (after : Holding) (old new : State) (told now : List Called) : Type 0 where
  pub stages : List Stage
  pub plan : IsPlanOf g old.world new.honest stages
  pub run : HaveRun g.name g.ways stages failed g.before after old new told now

-- at each moment of it
pub record IsAmid (g : Given) (old : World) (so_far : List Event) (now : World) : Type 0 where
  pub stages : List Stage
  pub plan : IsPlanOf g old true stages
  pub running : AreRunning g.name g.ways stages g.before old so_far now

-- the same, or it only looks yet
abbrev pub IsAmidUnit : Given → World → List Event → World → Type 0
IsAmidUnit g old so_far now = ((now ≡ old) × (scripts_of so_far ≡ [])) ⊎ IsAmid g old so_far now

-- The calls of a unit, whatever its answer: none, as long as nothing is planned, or the first of those that are legal for its stages;
-- and they are told.
pub data HasCalled (g : Given) (old new : State) (told now : List Called) : Type 0 where
  unplanned : Silent old new → now ≡ told → HasCalled g old new told now
  planned : (stages : List Stage) → IsPlanOf g old.world new.honest stages → Begun (MayRunStages stages) old new told now → HasCalled g old new told now

-- the record in the end: installed; or half-configured where the postinst failed. Of neither are names pending
abbrev pub ended_record : Record → Option Call → Record
ended_record r None = configured (half r)
ended_record r (Some call) = half r

-- The package's record is that one in the end, and those of other packages are as before.
pub record HasEnded (name : List ℕ) (failed : Option Call) (before after : List Record) : Type 0 where
  pub entry : Record
  pub found : record_in before name ≡ Some entry
  pub own : record_in after name ≡ Some (ended_record entry failed)
  pub others : (q : List ℕ) → q ≢ name → record_in after q ≡ record_in before q
