-- Which file each script call of an unpack names, and what it holds while the calls are made (Policy 6.1, 6.6).
use Rattle.std.specs.Prelude.{◌≡◌, ◌≢◌, ◌⊎◌, List, [], ◌∷◌, Some, IsSome}
use Rattle.host_core.specs.World.{World}
use Rattle.host_core.specs.Events.{Event, scripts_of}
use Rattle.host_core.specs.declared.call.Call.{Call}
use Rattle.host_core.specs.declared.call.Side.TheVariants.{Old, New}
use Rattle.administration.specs.Places.{script_path, tmp_script_path}
use Rattle.administration.specs.Scripts.{file_of, script_of}
use Rattle.administration.specs.declared.scripts.Scripts.{Scripts}
use Rattle.control_members.specs.LaidOut.{IsLaying}
use Rattle.undo_rows.specs.declared.rows.Row.{Row}
use Rattle.unpack_engine.specs.Units.{Begins, Given, Ground, IsRunning, task_from}
use Rattle.unpack_plan.specs.Planned.{Planned}
use Rattle.unpack_rows.specs.ForwardRows.{others_rows}
use Rattle.unpack_laws.specs.InHand.{unit_name}

-- a call of a row: on the way forward, in the place of one that failed, or one that undoes it
pub data IsCallOf (row : Row) (call : Call) : Type 0 where
  forward : row.forward ≡ Some call → IsCallOf row call
  fallback : row.fallback ≡ Some call → IsCallOf row call
  undo : row.undo ≡ Some call → IsCallOf row call

-- a call of one of these rows
abbrev pub IsCallAmong : List Row → Call → Type 0
IsCallAmong [] call = ⊥
IsCallAmong (row ∷ rows) call = IsCallOf row call ⊎ IsCallAmong rows call

-- it is of the script that was stored with its package when the unit began
pub record CallsStored (old : World) (call : Call) : Type 0 where
  pub side : call.side ≡ Old
  pub at : call.at ≡ script_path call.«package» call.script
  pub stood : IsSome (old call.at)

-- it is of the script of the tree
pub record CallsIncoming (tree : Scripts) (call : Call) : Type 0 where
  pub side : call.side ≡ New
  pub at : call.at ≡ tmp_script_path call.script
  pub shipped : IsSome (script_of tree call.script)

-- The file that a call names holds its script, with its access: the one that was stored when the unit began, or that of the tree.
pub data HasScript (tree : Scripts) (old now : World) (call : Call) : Type 0 where
  stored : CallsStored old call → now call.at ≡ old call.at → HasScript tree old now call
  incoming : CallsIncoming tree call → now call.at ≡ file_of (script_of tree call.script) → HasScript tree old now call

-- the rows of other packages call scripts that are stored with those
abbrev pub OthersCallStored : Given → World → Type 0
OthersCallStored g old =
    (call : Call) → IsCallAmong (others_rows g.others) call → CallsStored old call × (call.«package» ≢ unit_name g)

-- the rows of a plan run, and a script was started: with the last of these events at latest
pub record AreCalling (g : Ground) (p : Planned) (old : World) (so_far : List Event) (now : World) : Type 0 where
  pub running : IsRunning (Begins g p) IsLaying (task_from g p) old so_far now
  pub started : scripts_of so_far ≢ []
