-- The stages of processing the triggers that are pending of a package (deb-triggers): half-configured is noted, with which the names that
-- are pending go, and its postinst is called with these; and then it is installed again.
use Rattle.std.specs.Prelude.{◌≡◌, ℕ, Bool, cond, List, [], ◌∷◌, Option, Some, None, codes}
use Rattle.host_core.specs.declared.call.Call.{Call}
use Rattle.host_core.specs.declared.call.Side.TheVariants.{Old}
use Rattle.host_core.specs.declared.call.Script.TheVariants.{Postinst}
use Rattle.administration.specs.Places.{script_path}
use Rattle.undo_rows.specs.declared.rows.Row.{Row}
use Rattle.undo_rows.specs.declared.rows.Owner.TheVariants.{Package as OfPackage}
use Rattle.status_records.specs.Standings.{configured, standing_as}
use Rattle.status_records.specs.declared.record.Record.{Record}
use Rattle.status_records.specs.declared.words.State.TheVariants.{HalfConfigured}
use Rattle.unit_stages.specs.declared.part.Part.TheVariants.{Note}
use Rattle.unit_stages.specs.declared.stage.Stage.{Stage}

-- half-configured, with the flag as it is: it has no pending names any more
abbrev pub half : Record → Record
half r = standing_as r.flag HalfConfigured r

-- the pending names, with blanks between them, or nothing
abbrev pub pending_text : Option (List ℕ) → List ℕ
pending_text None = []
pending_text (Some names) = names

-- the stored postinst, with all pending names as one argument
abbrev pub triggered_call : Record → Call
triggered_call r = record {
  side = Old;
  «package» = r.name;
  script = Postinst;
  at = script_path r.name Postinst;
  args = codes "triggered" ∷ pending_text r.triggers.pending ∷ [];
}

-- it is called where it is stored, and nothing undoes it
abbrev pub triggered_row : Record → Bool → Row
triggered_row r stored = record { owner = OfPackage r.name; forward = cond stored (Some (triggered_call r)) None; fallback = None; undo = None }

-- no call
abbrev pub quiet_row : List ℕ → Row
quiet_row name = record { owner = OfPackage name; forward = None; fallback = None; undo = None }

-- the two stages; where the call fails nothing is undone
pub record AreTriggerStages (r : Record) (stored : Bool) (stages : List Stage) : Type 0 where
  pub first : Stage
  pub second : Stage
  pub are : stages ≡ first ∷ second ∷ []
  pub notes : first.parts.items ≡ Note (half r) ∷ []
  pub row : first.row ≡ triggered_row r stored
  pub no_restore : first.restore.items ≡ []
  pub installs : second.parts.items ≡ Note (configured (half r)) ∷ []
  pub no_call : second.row ≡ quiet_row r.name
  pub no_restore_either : second.restore.items ≡ []
