-- The call of a package that disappears (Policy 6.6), and the stages by which it goes.
use Rattle.std.specs.Prelude.{◌≡◌, ℕ, Bool, true, IsTrue, cond, List, [], ◌∷◌, Option, Some, None, codes, is_some, map}
use Rattle.texts.specs.PackageNames.{is_package_name}
use Rattle.host_core.specs.World.{World}
use Rattle.host_core.specs.declared.call.Call.{Call}
use Rattle.host_core.specs.declared.call.Script.TheVariants.{Postrm}
use Rattle.host_core.specs.declared.call.Side.TheVariants.{Old}
use Rattle.administration.specs.Places.{script_path}
use Rattle.removal_engine.specs.Scripts.{row_of}
use Rattle.removal_engine.specs.Stages.{gone_stage, planned, stage_of}
use Rattle.status_records.specs.Records.{record_in}
use Rattle.status_records.specs.declared.record.Record.{Record}
use Rattle.unit_stages.specs.Fitting.{AreStagesFit}
use Rattle.unit_stages.specs.Holding.{Holding}
use Rattle.unit_stages.specs.declared.stage.Stage.{Stage}
use Rattle.undo_rows.specs.declared.rows.Row.{Row}

-- postrm `disappear PKG VER` with the name and version of the unpacked package; where it isn't stored it isn't called
abbrev pub disappear_call : (name incoming version : List ℕ) → (stored : Bool) → Option Call
disappear_call name incoming version stored =
    cond stored
    (Some (record { side = Old; «package» = name; script = Postrm; at = script_path name Postrm; args = codes "disappear" ∷ incoming ∷ version ∷ [] }))
    None

-- nothing undoes it
abbrev pub disappear_row : (name incoming version : List ℕ) → (stored : Bool) → Row
disappear_row name incoming version stored = row_of name (disappear_call name incoming version stored) None

-- The stages of a package: the call of this row, and then all goes that the administration has of it. They fit what is recorded and
-- listed.
pub record ArePlanned (name : List ℕ) (h : Holding) (row : Row) (call gone : List Stage) : Type 0 where
  pub entry : Record
  pub found : record_in h.records name ≡ Some entry
  pub calls : map planned call ≡ stage_of [] row ∷ []
  pub goes : map planned gone ≡ gone_stage entry ∷ []
  pub named : is_package_name name ≡ true
  pub call_fits : AreStagesFit name call h.records h.lists
  pub gone_fits : AreStagesFit name gone h.records h.lists

-- those of a package that disappears, by what stands in this world: whether its postrm is stored
pub record IsPlan (incoming version name : List ℕ) (h : Holding) (w : World) (honest : Bool) (call gone : List Stage) : Type 0 where
  pub stored : Bool
  pub seen : IsTrue honest → stored ≡ is_some (w (script_path name Postrm))
  pub stages : ArePlanned name h (disappear_row name incoming version stored) call gone
