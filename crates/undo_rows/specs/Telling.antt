-- Which script calls were made and told, whatever was done beside them.
use Rattle.std.specs.Prelude.{◌≡◌, ◌⊎◌, List, [], ◌∷◌, ◌++◌, Option}
use Rattle.host_core.specs.World.{Change}
use Rattle.host_core.specs.Events.{Ran, Event, Cut, scripts_of}
use Rattle.host_core.specs.Host.{State, Falls, calls, finished}
use Rattle.host_core.specs.declared.call.Call.{Call}
use Rattle.undo_rows.specs.declared.rows.Called.{Called}
use Rattle.undo_rows.specs.declared.rows.Row.{Row}
use Rattle.undo_rows.specs.declared.fall.StepFault.{StepFault}
use Rattle.undo_rows.specs.declared.fall.Fall.{Fall}
use Rattle.undo_rows.specs.Transcript.{Goes, IsNext, Succeed, Tells}
use Rattle.undo_rows.specs.declared.failed.Failed.{Failed}
use Rattle.undo_rows.specs.Undoing.{UndoesAll}
use Rattle.undo_rows.specs.Transcripts.{Ended, IfHonest, Legal}

-- Script calls that have P were made and told, and no others.
pub record Made (P : List Ran → Type 0) (old new : State) (told now : List Called) : Type 0 where
  pub ts : List Ran
  pub has : P ts
  pub honest : Falls old new
  pub scripts : scripts_of new.events ≡ scripts_of old.events ++ finished ts
  pub tells : Tells ts told now

-- nothing, or the first of these calls, of which no end is known
abbrev pub IsCutShort : List Ran → List Event → Type 0
IsCutShort more cut = (cut ≡ []) ⊎ ((call : Call) × (change : Change) × IsNext call more × (cut ≡ Cut call change ∷ []))

-- Of some script calls that have P the first were made and told, and no others; of the next it may not be known how it ended.
pub record Begun (P : List Ran → Type 0) (old new : State) (told now : List Called) : Type 0 where
  pub ts : List Ran
  pub more : List Ran
  pub first_of : P (ts ++ more)
  pub honest : Falls old new
  pub cut : List Event
  pub scripts : scripts_of new.events ≡ scripts_of old.events ++ (finished ts ++ cut)
  pub cut_short : IsCutShort more cut
  pub tells : Tells ts told now

module _ (file_step_fault : List Ran → Option StepFault → Type 0) where
  -- the calls of a row on the way forward were made, and so it failed, if it did
  abbrev pub HasStepped : Row → Option Fall → State → State → List Called → List Called → Type 0
  HasStepped row fall old new told now = Made (λ ts. Goes (IfHonest new file_step_fault) (calls old) row ts fall) old new told now

  -- those of these rows, each of which succeeded
  abbrev pub HasSucceeded : List Row → State → State → List Called → List Called → Type 0
  HasSucceeded rows old new told now = Made (Succeed (IfHonest new file_step_fault) (calls old) rows) old new told now

  -- those of a whole run of these rows
  abbrev pub HasRun : Ended → List Row → State → State → List Called → List Called → Type 0
  HasRun ended rows old new told now = Made (Legal (IfHonest new file_step_fault) (calls old) ended rows) old new told now

-- the undo calls of these rows were made, and these failed
abbrev pub HasUnwound : List Row → List Failed → State → State → List Called → List Called → Type 0
HasUnwound rows failed old new told now = Made (λ ts. UndoesAll 0 rows ts failed) old new told now
