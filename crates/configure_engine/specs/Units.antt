-- The unit that configures a package, from the world that it finds to the one that it leaves, and each moment of it (Policy 6.5, 6.7).
use Rattle.std.specs.Prelude.{◌≡◌, ◌≢◌, ◌⊎◌, ℕ, Bool, true, IsTrue, List, [], Option, Some, None, is_some}
use Rattle.std.specs.List.{All}
use Rattle.host_core.specs.Paths.{Path}
use Rattle.host_core.specs.World.{World}
use Rattle.host_core.specs.Events.{Event, scripts_of}
use Rattle.host_core.specs.Host.{State, Silent}
use Rattle.host_core.specs.declared.call.Call.{Call}
use Rattle.host_core.specs.declared.call.Script.TheVariants.{Postinst}
use Rattle.administration.specs.Places.{script_path}
use Rattle.undo_rows.specs.Telling.{Begun}
use Rattle.conffiles.specs.Settling.{CanSettle}
use Rattle.conffiles.specs.declared.decisions.ConfPolicy.{ConfPolicy}
use Rattle.conffiles.specs.declared.entries.Settled.{Settled}
use Rattle.diversions.specs.Ways.{Ways}
use Rattle.file_lists.specs.Owners.{paths_of}
use Rattle.status_records.specs.Records.{record_in}
use Rattle.status_records.specs.Standings.{configured}
use Rattle.status_records.specs.declared.record.Record.{Record}
use Rattle.status_records.specs.declared.words.Flag.TheVariants.{Ok}
use Rattle.status_records.specs.declared.words.State.TheVariants.{HalfConfigured, Unpacked}
use Rattle.unit_stages.specs.Calls.{MayRunStages}
use Rattle.unit_stages.specs.Holding.{Holding}
use Rattle.unit_stages.specs.Running.{AreRunning}
use Rattle.unit_stages.specs.Runs.{HaveRun}
use Rattle.unit_stages.specs.declared.stage.Stage.{Stage}
use Rattle.undo_rows.specs.declared.rows.Called.{Called}
use Rattle.configure_engine.specs.Decided.{AreDecided, decided_paths}
use Rattle.configure_engine.specs.Settled.{settled}
use Rattle.configure_engine.specs.Stages.{AreConfigureStages, half}
use Rattle.configure_engine.specs.Waiting.{settling_places}

-- a package that waits to be configured has this record
pub record IsWaiting (records : List Record) (name : List ℕ) : Type 0 where
  pub entry : Record
  pub found : record_in records name ≡ Some entry
  pub state : (entry.state ≡ Unpacked) ⊎ (entry.state ≡ HalfConfigured)
  pub flag : entry.flag ≡ Ok

-- the conffiles of the package's record that are to be settled can be settled at their places in this world
abbrev pub CanConfigure : Ways → List Record → List ℕ → World → Type 0
CanConfigure ways records name w = (r : Record) → record_in records name ≡ Some r → All (λ x. CanSettle x w) (settling_places ways r)

-- The stages for this record and list, by what stands in this world: what is decided of each conffile, and whether the postinst is
-- stored.
pub record IsPlanFor (r : Record) (policy : ConfPolicy) (ways : Ways) (listed : List Path) (w : World) (honest : Bool) (stages : List Stage) : Type 0 where
  pub decisions : List Settled
  pub paths : decided_paths decisions ≡ settling_places ways r
  pub decided : IsTrue honest → AreDecided r policy ways w decisions
  pub stored : Bool
  pub seen : IsTrue honest → stored ≡ is_some (w (script_path r.name Postinst))
  pub stages_are : AreConfigureStages r listed decisions stored stages

-- what a unit finds: the name of its package, who wins, the diversions, and the records and lists
pub record Given : Type 0 where
  pub name : List ℕ
  pub policy : ConfPolicy
  pub ways : Ways
  pub before : Holding

abbrev pub given : List ℕ → ConfPolicy → Ways → Holding → Given
given name policy ways before = record { name = name; policy = policy; ways = ways; before = before }

-- the stages of the package's record
pub record IsPlanOf (g : Given) (w : World) (honest : Bool) (stages : List Stage) : Type 0 where
  pub entry : Record
  pub found : record_in g.before.records g.name ≡ Some entry
  pub plan : IsPlanFor entry g.policy g.ways (paths_of g.before.lists g.name) w honest stages

-- The whole unit: it is planned, and then the stages are run.
pub record HasConfigured (g : Given) (failed : Option Call) (after : Holding) (old new : State) (told now : List Called) : Type 0 where
  pub stages : List Stage
  pub plan : IsPlanOf g old.world new.honest stages
  pub run : HaveRun g.name g.ways stages failed g.before after old new told now

-- at each moment of it
pub record IsAmid (g : Given) (old : World) (so_far : List Event) (now : World) : Type 0 where
  pub stages : List Stage
  pub plan : IsPlanOf g old true stages
  pub running : AreRunning g.name g.ways stages g.before old so_far now

-- the same, or it only looks yet
abbrev pub IsAmidUnit : Given → World → List Event → World → Type 0
IsAmidUnit g old so_far now = ((now ≡ old) × (scripts_of so_far ≡ [])) ⊎ IsAmid g old so_far now

-- The calls of a unit, whatever its answer: none, as long as nothing is planned, or the first of those that are legal for its stages;
-- and they are told.
pub data HasCalled (g : Given) (old new : State) (told now : List Called) : Type 0 where
  unplanned : Silent old new → now ≡ told → HasCalled g old new told now
  planned : (stages : List Stage) → IsPlanOf g old.world new.honest stages → Begun (MayRunStages stages) old new told now → HasCalled g old new told now

-- the record in the end: installed; or half-configured where the postinst failed
abbrev pub ended_record : Record → Option Call → Record
ended_record r None = configured (settled r)
ended_record r (Some call) = half (settled r)

-- The package's record is that one in the end, and those of other packages are as before.
pub record HasEnded (name : List ℕ) (failed : Option Call) (before after : List Record) : Type 0 where
  pub entry : Record
  pub found : record_in before name ≡ Some entry
  pub own : record_in after name ≡ Some (ended_record entry failed)
  pub others : (q : List ℕ) → q ≢ name → record_in after q ≡ record_in before q
