-- The stages of configuring a package (Policy 6.5, 6.7): half-configured is noted, its conffiles are settled, what was settled is noted,
-- its postinst is called; and then it is installed.
use Rattle.std.specs.Prelude.{◌≡◌, ℕ, Bool, not, cond, List, [], ◌∷◌, ◌++◌, Option, Some, None, codes, filter}
use Rattle.std.specs.List.{list_any}
use Rattle.std.specs.Str.{bytes_eq}
use Rattle.host_core.specs.Paths.{Path}
use Rattle.host_core.specs.declared.call.Call.{Call}
use Rattle.host_core.specs.declared.call.Side.TheVariants.{Old}
use Rattle.host_core.specs.declared.call.Script.TheVariants.{Postinst}
use Rattle.administration.specs.Places.{script_path}
use Rattle.conffiles.specs.declared.entries.Settled.{Settled}
use Rattle.undo_rows.specs.declared.rows.Row.{Row}
use Rattle.undo_rows.specs.declared.rows.Owner.TheVariants.{Package as OfPackage}
use Rattle.status_records.specs.Configured.{last_configured}
use Rattle.status_records.specs.Standings.{configured, standing_as}
use Rattle.status_records.specs.declared.record.Record.{Record}
use Rattle.status_records.specs.declared.words.State.TheVariants.{HalfConfigured}
use Rattle.unit_stages.specs.declared.part.Part.{Part}
use Rattle.unit_stages.specs.declared.part.Part.TheVariants.{Note, Forget, Settle, Remove, RemoveDirectories, Clear, List as Listing, DropList, DropMembers}
use Rattle.unit_stages.specs.declared.stage.Stage.{Stage}
use Rattle.configure_engine.specs.Settled.{settled}
use Rattle.configure_engine.specs.Waiting.{going_paths}

-- half-configured, with the flag as it is
abbrev pub half : Record → Record
half r = standing_as r.flag HalfConfigured r

-- a list without these paths
abbrev pub listed_without : List Path → List Path → List Path
listed_without going listed = filter (λ q. not (list_any (bytes_eq q) going)) listed

-- the list is written where a path goes
abbrev pub list_parts : List Path → List Path → List Part
list_parts [] listed = []
list_parts (q ∷ going) listed = Listing (listed_without (q ∷ going) listed) ∷ []

-- these conffiles are settled
abbrev pub SettlesThese : List Settled → Part → Type 0
SettlesThese list (Note r) = ⊥
SettlesThese list Forget = ⊥
SettlesThese list (Settle settled) = settled.items ≡ list
SettlesThese list (Remove leaving) = ⊥
SettlesThese list (RemoveDirectories leaving) = ⊥
SettlesThese list (Clear names) = ⊥
SettlesThese list (Listing paths) = ⊥
SettlesThese list DropList = ⊥
SettlesThese list (DropMembers keep_postrm) = ⊥

-- What is done before the call: half-configured is noted; where conffiles are to be settled they are, the list loses the paths that
-- go, and what was settled is noted.
abbrev pub AreFirstParts : Record → (listed : List Path) → List Settled → List Part → Type 0
AreFirstParts r listed [] parts = parts ≡ Note (half r) ∷ []
AreFirstParts r listed (e ∷ es) parts =
    (part : Part) × SettlesThese (e ∷ es) part × (parts ≡ Note (half r) ∷ part ∷ (list_parts (going_paths r) listed ++ Note (half (settled r)) ∷ []))

-- the version configured last, or nothing
abbrev pub last_text : Option (List ℕ) → List ℕ
last_text None = []
last_text (Some version) = version

-- the stored postinst, with the version configured last
abbrev pub postinst_call : Record → Call
postinst_call r = record {
  side = Old;
  «package» = r.name;
  script = Postinst;
  at = script_path r.name Postinst;
  args = codes "configure" ∷ last_text (last_configured r) ∷ [];
}

-- it is called where it is stored, and nothing undoes it
abbrev pub postinst_row : Record → Bool → Row
postinst_row r stored = record { owner = OfPackage r.name; forward = cond stored (Some (postinst_call r)) None; fallback = None; undo = None }

-- no call
abbrev pub quiet_row : List ℕ → Row
quiet_row name = record { owner = OfPackage name; forward = None; fallback = None; undo = None }

-- the two stages; where the call fails nothing is undone
pub record AreConfigureStages (r : Record) (listed : List Path) (decisions : List Settled) (stored : Bool) (stages : List Stage) : Type 0 where
  pub first : Stage
  pub second : Stage
  pub are : stages ≡ first ∷ second ∷ []
  pub parts : AreFirstParts r listed decisions first.parts.items
  pub row : first.row ≡ postinst_row r stored
  pub no_restore : first.restore.items ≡ []
  pub installs : second.parts.items ≡ Note (configured (settled r)) ∷ []
  pub no_call : second.row ≡ quiet_row r.name
  pub no_restore_either : second.restore.items ≡ []
