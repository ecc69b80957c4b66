-- Which script calls may be made for a list of rows, of whatever owners.
use Rattle.std.specs.Prelude.{◌≡◌, Bool, IsTrue, List, [], ◌∷◌, ◌++◌, Option, Some, length}
use Rattle.host_core.specs.Events.{Ran}
use Rattle.host_core.specs.Host.{State}
use Rattle.undo_rows.specs.declared.rows.Row.{Row}
use Rattle.undo_rows.specs.declared.fall.StepFault.{StepFault}
use Rattle.undo_rows.specs.declared.fall.Fall.{Fall}
use Rattle.undo_rows.specs.Transcript.{Goes, Succeed}
use Rattle.undo_rows.specs.declared.failed.Failed.{Failed}
use Rattle.undo_rows.specs.Undoing.{Undoes, UndoesAll}

-- How a run of rows ends: each row succeeded; or one failed, it and those before it were undone, and these undo calls failed.
pub data Ended : Type 0 where
  Committed : Ended
  Unwound : (fall : Fall) (failed : List Failed) → Ended

-- what is said of the file row's step fault after some calls, as long as the host was honest until this state
abbrev pub IfHonest : State → (List Ran → Option StepFault → Type 0) → List Ran → Option StepFault → Type 0
IfHonest s file_step_fault calls fault = IsTrue s.honest → file_step_fault calls fault

-- nothing is said of it
abbrev pub Anyhow : List Ran → Option StepFault → Type 0
Anyhow calls fault = Unit {0}

-- `file_step_fault calls fault`: after all these calls the work of the file row has this step fault, or none
module _ (file_step_fault : List Ran → Option StepFault → Type 0) where
  -- rows up to one that fails, and the undo of these
  pub record Unwinds (past : List Ran) (rows : List Row) (ts : List Ran) (fall : Fall) (failed : List Failed) : Type 0 where
    pub before : List Row
    pub row : Row
    pub after : List Row
    pub rows_are : rows ≡ before ++ row ∷ after
    pub fell_at : fall.row ≡ length before
    pub forward : List Ran
    pub last : List Ran
    pub back : List Ran
    pub calls_are : ts ≡ forward ++ last ++ back
    pub succeed : Succeed file_step_fault past before forward
    pub fails : Goes file_step_fault (past ++ forward) row last (Some fall)
    pub undoes : UndoesAll 0 (before ++ row ∷ []) back failed

  -- a transcript that may be made for these rows after the calls of `past`, by how it ended
  abbrev pub Legal : List Ran → Ended → List Row → List Ran → Type 0
  Legal past Committed rows ts = Succeed file_step_fault past rows ts
  Legal past (Unwound fall failed) rows ts = Unwinds past rows ts fall failed

-- the calls of a row on the way forward, however they end
abbrev pub MayStep : Row → List Ran → Type 0
MayStep row ts = (fall : Option Fall) × Goes Anyhow [] row ts fall

-- the undo of a row, however it ends
abbrev pub MayUndo : Row → List Failed → List Ran → Type 0
MayUndo row failed ts = (fails : Bool) × Undoes row failed ts fails

-- the undo of these rows, however it ends
abbrev pub MayUnwind : List Row → List Ran → Type 0
MayUnwind rows ts = (failed : List Failed) × UndoesAll 0 rows ts failed

-- a transcript that may be made for these rows, however it ends
abbrev pub MayRun : List Row → List Ran → Type 0
MayRun rows ts = (ended : Ended) × Legal Anyhow [] ended rows ts
