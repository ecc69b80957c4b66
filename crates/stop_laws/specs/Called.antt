-- Which scripts the stages of a unit call (Policy 6.5, 6.8).
use Rattle.std.specs.Prelude.{◌≡◌, ◌⊎◌, ℕ, List, [], ◌∷◌, Some, IsSome}
use Rattle.host_core.specs.World.{World}
use Rattle.host_core.specs.declared.call.Call.{Call}
use Rattle.host_core.specs.declared.call.Side.TheVariants.{Old}
use Rattle.administration.specs.Places.{script_path}
use Rattle.undo_rows.specs.declared.rows.Row.{Row}
use Rattle.unit_stages.specs.declared.stage.Stage.{Stage}

-- a call of a row: on the way forward, in the place of one that failed, or one that undoes it
pub data IsCallOf (row : Row) (call : Call) : Type 0 where
  forward : row.forward ≡ Some call → IsCallOf row call
  fallback : row.fallback ≡ Some call → IsCallOf row call
  undo : row.undo ≡ Some call → IsCallOf row call

-- a call of one of these stages
abbrev pub IsCallAmong : List Stage → Call → Type 0
IsCallAmong [] call = ⊥
IsCallAmong (stage ∷ stages) call = IsCallOf stage.row call ⊎ IsCallAmong stages call

-- it is of a script that was stored with this package when the unit began
pub record CallsStored (name : List ℕ) (old : World) (call : Call) : Type 0 where
  pub side : call.side ≡ Old
  pub own : call.«package» ≡ name
  pub at : call.at ≡ script_path name call.script
  pub stood : IsSome (old call.at)
