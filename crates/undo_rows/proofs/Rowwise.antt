-- What a row may do on the way forward.
use Rattle.std.proofs.Common.{◌≡◌, ◌≢◌, Bool, true, false, List, [], ◌∷◌, Option, Some, None, refl, pos}
use Rattle.host_core.specs.Events.{Ran}
use Rattle.host_core.specs.declared.call.Call.{Call}
use Rattle.host_core.specs.declared.call.Outcome.TheVariants.{Exit}
use Rattle.undo_rows.specs.declared.rows.Row.{Row}
use Rattle.undo_rows.specs.declared.rows.Owner.{Owner}
use Rattle.undo_rows.specs.declared.rows.Owner.TheVariants.{Files, Package}
use Rattle.undo_rows.specs.Transcript.{Goes, Tries, TriesRow}
use Rattle.undo_rows.specs.Transcripts.{MayStep}

-- a call that succeeded
abbrev pub succeeded : Call → Ran
succeeded call = record { call = call; outcome = Exit (pos 0); change = [] }

succeeds_by : (row : Row) (forward : Option Call) → row.forward ≡ forward → (ts : List Ran) × Tries row ts true
succeeds_by row None is = ([], Tries.absent is)
succeeds_by row (Some call) is = (succeeded call ∷ [], Tries.done (succeeded call) is refl)

-- each row of calls can succeed
pub may_succeed : (row : Row) → (ts : List Ran) × Tries row ts true
may_succeed row = succeeds_by row row.forward refl

pub may_try : (row : Row) → (ts : List Ran) × TriesRow row ts
may_try row = let some = may_succeed row in (some.0, (true, some.1))

pub may_step_files : (row : Row) → row.owner ≡ Files → MayStep row []
may_step_files row files = (None, Goes.wrote files tt)

steps_by : (row : Row) (ok : Bool) → row.owner ≢ Files → (ts : List Ran) → Tries row ts ok → MayStep row ts
steps_by row true calls ts tries = (None, Goes.succeeded ts calls tries)
steps_by row false calls ts tries = (Some (record { row = 0; fault = None }), Goes.failed ts _ calls tries refl)

pub may_step_calls : (row : Row) → row.owner ≢ Files → (ts : List Ran) → TriesRow row ts → MayStep row ts
may_step_calls row calls ts is = steps_by row is.0 calls ts is.1

step_by : (row : Row) (owner : Owner) → row.owner ≡ owner → (ts : List Ran) × MayStep row ts
step_by row Files is = ([], may_step_files row is)
step_by row (Package name) is = let some = may_succeed row in (some.0, may_step_calls row (λ files. cc) some.0 (true, some.1))

-- each row can be stepped through
pub may_step : (row : Row) → (ts : List Ran) × MayStep row ts
may_step row = step_by row row.owner refl
