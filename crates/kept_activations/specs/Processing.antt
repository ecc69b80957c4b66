-- What came of a trigger that was pending (deb-triggers).
use Rattle.std.specs.Prelude.{◌⊎◌, ℕ, List, [], ◌∷◌}
use Rattle.host_core.specs.Host.{State}
use Rattle.status_records.specs.declared.record.Record.{Record}
use Rattle.trigger_run.specs.Units.{RunsProcessing}
use Rattle.unit_reports.specs.Held.{Held}
use Rattle.unit_reports.specs.declared.report.Unit.{Unit as AUnit}
use Rattle.kept_activations.specs.Pending.{IsPending, IsUnfinished}

-- The unit processed what was pending of the package, and this trigger was: its postinst, where it has one, was called with `triggered` and
-- all these names.
pub record IsProcessedBy (owner trigger : List ℕ) (u : AUnit) : Type 0 where
  pub before : Held
  pub after : Held
  pub s : State
  pub t : State
  pub pending : IsPending before.records.records owner trigger
  pub processed : RunsProcessing owner before after u s t

-- one of these units did
abbrev pub IsProcessed : List AUnit → List ℕ → List ℕ → Type 0
IsProcessed [] owner trigger = ⊥
IsProcessed (u ∷ us) owner trigger = IsProcessedBy owner trigger u ⊎ IsProcessed us owner trigger

-- The trigger is pending still; or these units processed it; or the package was left half-configured, which is less than installed.
abbrev pub IsKept : List Record → List AUnit → List ℕ → List ℕ → Type 0
IsKept records us owner trigger = IsPending records owner trigger ⊎ (IsProcessed us owner trigger ⊎ IsUnfinished records owner)
