-- How a whole run of rows ends, and for what it failed.
use Rattle.std.specs.Prelude.{◌≡◌, ℕ, zero, suc, List, [], ◌∷◌, Option, Some, None}
use Rattle.host_core.specs.declared.call.Call.{Call}
use Rattle.undo_rows.specs.declared.fall.StepFault.{StepFault}
use Rattle.undo_rows.specs.declared.rows.Row.{Row}
use Rattle.undo_rows.specs.Place.{Place, Forward, Back}
use Rattle.undo_rows.specs.Transcripts.{Ended, Committed, Unwound}
use Rattle.undo_rows.specs.declared.failure.Failure.{Failure}
use Rattle.undo_rows.specs.declared.failure.Failure.TheVariants as failure
use Rattle.undo_rows.specs.declared.unwinding.Unwinding.{Unwinding}

-- rows that all succeeded, or that were unwound
abbrev pub ended_as : Option Unwinding → Ended
ended_as None = Committed
ended_as (Some u) = Unwound u.fall u.failed.items

-- where so many rows end
abbrev pub end_place : ℕ → Option Unwinding → Place
end_place rows None = Forward rows
end_place rows (Some u) = Back 0 u.fall u.failed.items

-- the row of an index
abbrev pub row_at : List Row → ℕ → Option Row
row_at [] index = None
row_at (row ∷ rows) zero = Some row
row_at (row ∷ rows) (suc index) = row_at rows index

abbrev pub call_of : Option Call → Option Failure
call_of None = None
call_of (Some call) = Some (failure.OfCall call)

-- the step fault of the files, or else the call
abbrev pub cause_of : Option StepFault → Option Call → Option Failure
cause_of (Some fault) call = Some (failure.OfFiles fault)
cause_of None call = call_of call

abbrev pub forward_of : Option Row → Option Call
forward_of None = None
forward_of (Some row) = row.forward

-- for what it failed: the step fault of the files, or else the forward call of the row that failed
abbrev pub failure_of : List Row → ℕ → Option StepFault → Option Failure
failure_of rows index fault = cause_of fault (forward_of (row_at rows index))

abbrev pub IsCauseOf : List Row → Option Unwinding → Type 0
IsCauseOf rows None = Unit {0}
IsCauseOf rows (Some u) = failure_of rows u.fall.row u.fall.fault ≡ Some u.failure
