-- What holds at each moment of a run of stages.
use Rattle.std.specs.Prelude.{◌≡◌, ℕ, true, List, [], ◌∷◌, ◌++◌}
use Rattle.host_core.specs.World.{World}
use Rattle.host_core.specs.Events.{Event, IsDeniedIn, calls_of, scripts_of}
use Rattle.host_core.specs.Host.{OnlyScripts}
use Rattle.undo_rows.specs.Transcript.{Tries}
use Rattle.diversions.specs.Ways.{Ways}
use Rattle.file_lists.specs.Info.{AreLoose}
use Rattle.status_db.specs.Held.{CanOpenRecords, HasRecords}
use Rattle.status_records.specs.declared.record.Record.{Record}
use Rattle.unit_stages.specs.Doing.{AreAmid}
use Rattle.unit_stages.specs.Parts.{HaveDone, parts_records}
use Rattle.unit_stages.specs.declared.part.Part.{Part}
use Rattle.unit_stages.specs.Holding.{Holding, after_parts, after_stages}
use Rattle.unit_stages.specs.Runs.{kept_by}
use Rattle.unit_stages.specs.declared.stage.Stage.{Stage}

-- The next opening finds these records, and no entry of `info` is a directory.
pub record IsOpenable (table : List Record) (now : World) : Type 0 where
  pub records : HasRecords now table
  pub opens : CanOpenRecords now
  pub loose : AreLoose now

-- the records after the first of these parts, as many as there may be
pub record IsNotedBy (name : List ℕ) (parts : List Part) (rs table : List Record) : Type 0 where
  pub front : List Part
  pub back : List Part
  pub are : parts ≡ front ++ back
  pub table_is : table ≡ parts_records name front rs

module _ (name : List ℕ) (ways : Ways) where
  -- How far the calls of a stage are, and which records stand then: they are made, and leave alone what is kept; or they were made, and
  -- what is done where its call failed is under way.
  pub data IsCalling (restore : List Part) (h : Holding) (old : World) (so_far : List Event) (now : World) (table : List Record) : Type 0 where
    calling : OnlyScripts (kept_by ways h) old so_far now → table ≡ h.records → IsCalling restore h old so_far now table
    restoring : (calls after : List Event) (called : World) → so_far ≡ calls ++ after → OnlyScripts (kept_by ways h) old calls called → scripts_of after ≡ []
        → AreAmid name restore h.records called after now → IsNotedBy name restore h.records table → IsCalling restore h old so_far now table

  -- How far a stage is: its parts are under way, or they are done and its calls are.
  pub data IsInStage (stage : Stage) (h : Holding) (old : World) (so_far : List Event) (now : World) (table : List Record) : Type 0 where
    doing : scripts_of so_far ≡ [] → AreAmid name stage.parts.items h.records old so_far now → IsNotedBy name stage.parts.items h.records table → IsInStage stage h old so_far now table
    behind : (before since : List Event) (ready : World) → so_far ≡ before ++ since → scripts_of before ≡ [] → HaveDone name (IsDeniedIn before) stage.parts.items h.records old ready
        → IsCalling stage.restore.items (after_parts name stage.parts.items h) ready since now table → IsInStage stage h old so_far now table

  -- at each moment of the calls of a stage
  abbrev pub AreCalled : List Part → Holding → World → List Event → World → Type 0
  AreCalled restore h old so_far now = (table : List Record) × IsCalling restore h old so_far now table × IsOpenable table now

  -- at each moment of a stage
  abbrev pub IsAmidStage : Stage → Holding → World → List Event → World → Type 0
  IsAmidStage stage h old so_far now = (table : List Record) × IsInStage stage h old so_far now table × IsOpenable table now

  -- The parts of a stage are done, and its call succeeded, or it has none.
  pub record IsPast (stage : Stage) (h : Holding) (old : World) (so_far : List Event) (now : World) : Type 0 where
    pub before : List Event
    pub calls : List Event
    pub events : so_far ≡ before ++ calls
    pub quiet : scripts_of before ≡ []
    pub ready : World
    pub done : HaveDone name (IsDeniedIn before) stage.parts.items h.records old ready
    pub scripts : OnlyScripts (kept_by ways (after_parts name stage.parts.items h)) ready calls now
    pub passes : Tries stage.row (calls_of calls) true

  -- A stage is past, and then this.
  pub record IsPastAnd (stage : Stage) (rest : Holding → World → List Event → Type 0) (h : Holding) (old : World) (so_far : List Event) : Type 0 where
    pub own : List Event
    pub more : List Event
    pub events : so_far ≡ own ++ more
    pub mid : World
    pub past : IsPast stage h old own mid
    pub further : rest (after_parts name stage.parts.items h) mid more

  -- these stages are past
  abbrev pub ArePast : List Stage → Holding → World → List Event → World → Type 0
  ArePast [] h old so_far now = (so_far ≡ []) × (now ≡ old)
  ArePast (stage ∷ stages) h old so_far now = IsPastAnd stage (λ g mid more. ArePast stages g mid more now) h old so_far

  -- between two stages, or in the first of these
  pub data IsInNext (stages : List Stage) (h : Holding) (old : World) (so_far : List Event) (now : World) (table : List Record) : Type 0 where
    between : so_far ≡ [] → now ≡ old → table ≡ h.records → IsInNext stages h old so_far now table
    inside : (stage : Stage) (rest : List Stage) → stages ≡ stage ∷ rest → IsInStage stage h old so_far now table → IsInNext stages h old so_far now table

  -- At each moment of a run: the first stages are past, and of those behind them the first is somewhere.
  pub record AreRunning (stages : List Stage) (h : Holding) (old : World) (so_far : List Event) (now : World) : Type 0 where
    pub front : List Stage
    pub back : List Stage
    pub are : stages ≡ front ++ back
    pub before : List Event
    pub since : List Event
    pub events : so_far ≡ before ++ since
    pub reached : World
    pub past : ArePast front h old before reached
    pub table : List Record
    pub next : IsInNext back (after_stages name front h) reached since now table
    pub opens : IsOpenable table now
