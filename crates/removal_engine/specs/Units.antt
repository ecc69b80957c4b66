-- The unit that removes or purges a package, from the world that it finds to the one that it leaves, and each moment of it (Policy 6.6,
-- 6.8).
use Rattle.std.specs.Prelude.{◌≡◌, ◌≢◌, ◌⊎◌, ℕ, Bool, true, IsTrue, List, [], Option, Some, None, codes, map}
use Rattle.texts.specs.PackageNames.{is_package_name}
use Rattle.host_core.specs.Paths.{Path}
use Rattle.host_core.specs.World.{World}
use Rattle.host_core.specs.Events.{Event, scripts_of}
use Rattle.host_core.specs.Host.{State, Silent}
use Rattle.host_core.specs.declared.call.Call.{Call}
use Rattle.host_core.specs.declared.call.Script.{Script}
use Rattle.host_core.specs.declared.call.Script.TheVariants as script
use Rattle.undo_rows.specs.Telling.{Begun}
use Rattle.diversions.specs.Ways.{Ways}
use Rattle.file_lists.specs.declared.paths.PackageList.{PackageList}
use Rattle.status_records.specs.Records.{record_in}
use Rattle.status_records.specs.declared.record.Record.{Record}
use Rattle.status_records.specs.declared.words.State.TheVariants as state
use Rattle.unit_stages.specs.Calls.{MayRunStages}
use Rattle.unit_stages.specs.Fitting.{AreStagesFit}
use Rattle.unit_stages.specs.Holding.{Holding}
use Rattle.unit_stages.specs.Running.{AreRunning}
use Rattle.unit_stages.specs.Runs.{HaveRun}
use Rattle.unit_stages.specs.declared.stage.Stage.{Stage}
use Rattle.undo_rows.specs.declared.rows.Called.{Called}
use Rattle.removal_engine.specs.Extents.{BeginsFrom}
use Rattle.removal_engine.specs.Lists.{IsToCome}
use Rattle.removal_engine.specs.Records.{config_files, half_configured, purged, without_files}
use Rattle.removal_engine.specs.Scripts.{AreStored, call_of}
use Rattle.removal_engine.specs.Stages.{planned as as_planned, removal_stages}
use Rattle.removal_engine.specs.declared.extent.Extent.{Extent}
use Rattle.removal_engine.specs.declared.extent.Extent.TheVariants.{Purge, InFavour}
use Rattle.removal_engine.specs.declared.scripts.Stored.{Stored}

-- a package that can be removed has this record
pub record IsRemovable (extent : Extent) (records : List Record) (name : List ℕ) : Type 0 where
  pub entry : Record
  pub found : record_in records name ≡ Some entry
  pub begins : BeginsFrom extent entry.state

-- The stages for this record, by what stands in this world: which scripts are stored.
pub record IsPlanFor (ways : Ways) (lists : List PackageList) (r : Record) (extent : Extent) (w : World) (honest : Bool) (stages : List Stage) : Type 0 where
  pub stored : Stored
  pub seen : IsTrue honest → AreStored r.name w stored
  pub to_come : List Path
  pub comes : IsToCome r stored to_come
  pub are : map as_planned stages ≡ removal_stages ways lists extent r stored to_come

-- what a unit is given: its extent, the name of its package, the diversions, and the records and lists that it finds
pub record Given : Type 0 where
  pub extent : Extent
  pub name : List ℕ
  pub ways : Ways
  pub before : Holding

abbrev pub given : Extent → List ℕ → Ways → Holding → Given
given extent name ways before = record { extent = extent; name = name; ways = ways; before = before }

-- the stages of the package's record
pub record IsPlanOf (g : Given) (w : World) (honest : Bool) (stages : List Stage) : Type 0 where
  pub entry : Record
  pub found : record_in g.before.records g.name ≡ Some entry
  pub plan : IsPlanFor g.ways g.before.lists entry g.extent w honest stages

-- The whole unit: it is planned, and then the stages are run, each of which fits what those before it leave.
pub record HasRemoved (g : Given) (failed : Option Call) (after : Holding) (old new : State) (told now : List Called) : Type 0 where
  pub stages : List Stage
  pub plan : IsPlanOf g old.world new.honest stages
  pub named : is_package_name g.name ≡ true
  pub fit : AreStagesFit g.name stages g.before.records g.before.lists
  pub run : HaveRun g.name g.ways stages failed g.before after old new told now

-- at each moment of it
pub record IsAmid (g : Given) (old : World) (so_far : List Event) (now : World) : Type 0 where
  pub stages : List Stage
  pub plan : IsPlanOf g old true stages
  pub running : AreRunning g.name g.ways stages g.before old so_far now

-- the same, or it only looks yet
abbrev pub IsAmidUnit : Given → World → List Event → World → Type 0
IsAmidUnit g old so_far now = ((now ≡ old) × (scripts_of so_far ≡ [])) ⊎ IsAmid g old so_far now

-- The calls of a unit, whatever its answer: none, as long as nothing is planned, or the first of those that are legal for its stages;
-- and they are told.
pub data HasCalled (g : Given) (old new : State) (told now : List Called) : Type 0 where
  unplanned : Silent old new → now ≡ told → HasCalled g old new told now
  planned : (stages : List Stage) → IsPlanOf g old.world new.honest stages → Begun (MayRunStages stages) old new told now → HasCalled g old new told now

-- the script of this name was called with this word, and failed
abbrev pub IsCallOf : Record → Script → List ℕ → Call → Type 0
IsCallOf r s word call = call_of r.name s true word ≡ Some call

-- The record in the end: where no call failed none, or that of its conffiles and postrm, which a purge doesn't leave. Where prerm
-- failed, that of before, or half-configured; where postrm `remove` did, half-installed; where postrm `purge` did, that of a removed
-- package which is being purged.
pub data IsEndOf (r : Record) (extent : Extent) : Option Call → Option Record → Type 0 where
  gone : IsEndOf r extent None None
  left : extent ≢ Purge → IsEndOf r extent None (Some (config_files r))
  undone : (call : Call) → extent ≢ InFavour → IsCallOf r script.Prerm (codes "remove") call → IsEndOf r extent (Some call) (Some r)
  not_undone : (call : Call) → extent ≢ InFavour → IsCallOf r script.Prerm (codes "remove") call → IsEndOf r extent (Some call) (Some (half_configured r))
  not_left : (call : Call) → IsCallOf r script.Postrm (codes "remove") call → IsEndOf r extent (Some call) (Some (without_files r))
  not_purged : (call : Call) → extent ≡ Purge → IsCallOf r script.Postrm (codes "purge") call → r.state ≡ state.ConfigFiles → IsEndOf r extent (Some call) (Some (purged r))
  removed_alone : (call : Call) → extent ≡ Purge → IsCallOf r script.Postrm (codes "purge") call → IsEndOf r extent (Some call) (Some (purged (config_files r)))

-- The package's record is that one in the end, and those of other packages are as before.
pub record HasEnded (extent : Extent) (name : List ℕ) (failed : Option Call) (before after : List Record) : Type 0 where
  pub entry : Record
  pub found : record_in before name ≡ Some entry
  pub own : IsEndOf entry extent failed (record_in after name)
  pub others : (q : List ℕ) → q ≢ name → record_in after q ≡ record_in before q
