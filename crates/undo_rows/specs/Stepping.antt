-- Rows that were stepped through behind others, up to one that failed.
use Rattle.std.specs.Prelude.{◌≡◌, ℕ, List, [], ◌∷◌, ◌++◌, Option, Some, None, length}
use Rattle.host_core.specs.Events.{Ran}
use Rattle.host_core.specs.Host.{State}
use Rattle.undo_rows.specs.declared.rows.Called.{Called}
use Rattle.undo_rows.specs.declared.rows.Row.{Row}
use Rattle.undo_rows.specs.declared.fall.StepFault.{StepFault}
use Rattle.undo_rows.specs.Place.{Place, Back, Forward}
use Rattle.undo_rows.specs.Telling.{HasStepped, HasSucceeded}
use Rattle.undo_rows.specs.declared.stopped.Stopped.{Stopped}

module _ (file_step_fault : List Ran → Option StepFault → Type 0) where
  -- wherever those that were there began, these have succeeded since
  abbrev pub GoneOn : List Row → List Row → State → State → List Called → List Called → Type 0
  GoneOn there rows old new told now = (start : State) (first : List Called) → HasSucceeded file_step_fault there start old first told → HasSucceeded file_step_fault rows start new first now

  -- Rows succeeded, also those that were there, and the one after them failed; the stack has these.
  pub record HasFallen (stopped : Stopped) (there rows stack : List Row) (old new : State) (told now : List Called) : Type 0 where
    pub before : List Row
    pub row : Row
    pub after : List Row
    pub rows_are : there ++ rows ≡ before ++ row ∷ after
    pub stack_is : stack ≡ before ++ row ∷ []
    pub fell_at : stopped.fall.row ≡ length before
    pub forward_is : stopped.forward ≡ row.forward
    pub between : State
    pub so_far : List Called
    pub succeeded : GoneOn there before old between told so_far
    pub failed : HasStepped file_step_fault row (Some stopped.fall) between new so_far now

  -- all rows succeeded, or one failed
  abbrev pub HasStopped : Option Stopped → List Row → List Row → List Row → State → State → List Called → List Called → Type 0
  HasStopped None there rows stack old new told now = GoneOn there (there ++ rows) old new told now
  HasStopped (Some stopped) there rows stack old new told now = HasFallen stopped there rows stack old new told now

-- where so many rows lead, or so many that are in the stack
abbrev pub stop_place : ℕ → ℕ → Option Stopped → Place
stop_place rows stack None = Forward rows
stop_place rows stack (Some stopped) = Back stack stopped.fall []
