-- Which script calls may be made for stages.
use Rattle.std.specs.Prelude.{◌≡◌, ◌⊎◌, true, false, List, [], ◌∷◌, ◌++◌, Option, Some, None}
use Rattle.host_core.specs.Events.{Ran}
use Rattle.host_core.specs.declared.call.Call.{Call}
use Rattle.undo_rows.specs.Transcript.{Tries, UndoesAny}
use Rattle.undo_rows.specs.declared.rows.Row.{Row}
use Rattle.unit_stages.specs.declared.stage.Stage.{Stage}

-- The call of a row failed; the call that undoes it came, and none behind that.
pub record Fails (row : Row) (failed : Option Call) (ts : List Ran) : Type 0 where
  pub call : Call
  pub answer : failed ≡ Some call
  pub forward : row.forward ≡ Some call
  pub own : List Ran
  pub back : List Ran
  pub are : ts ≡ own ++ back
  pub tries : Tries row own false
  pub undoes : UndoesAny row [] back

-- the calls of a row, which succeeded or failed
abbrev pub AreCallsOfRow : Row → Option Call → List Ran → Type 0
AreCallsOfRow row failed ts = ((failed ≡ None) × Tries row ts true) ⊎ Fails row failed ts

-- the same, however it ends
abbrev pub MayCallRow : Row → List Ran → Type 0
MayCallRow row ts = (failed : Option Call) × AreCallsOfRow row failed ts

-- The call of a row succeeded, or it has none; then more calls came.
pub record Succeeds (row : Row) (after : List Ran → Type 0) (ts : List Ran) : Type 0 where
  pub own : List Ran
  pub more : List Ran
  pub are : ts ≡ own ++ more
  pub tries : Tries row own true
  pub rest : after more

-- the calls of these stages, one stage after another, up to the call that failed, if one did
abbrev pub AreCallsOf : List Stage → Option Call → List Ran → Type 0
AreCallsOf [] failed ts = (failed ≡ None) × (ts ≡ [])
AreCallsOf (stage ∷ stages) failed ts = Succeeds stage.row (AreCallsOf stages failed) ts ⊎ Fails stage.row failed ts

-- the same, however it ends
abbrev pub MayRunStages : List Stage → List Ran → Type 0
MayRunStages stages ts = (failed : Option Call) × AreCallsOf stages failed ts
