-- One package is removed in favour of another, or passed over.
use Rattle.std.proofs.Common.{◌≡◌, ◌≢◌, inl, ℕ, List, None, Option, Result, Ok, Err, IfOk, OnOk, refl}
use Rattle.host_core.specs.Host.{AtEachMomentOf, Needs, State}
use Rattle.host_core.proofs.Moments.{since_start}
use Rattle.host_core.specs.declared.call.Call.{Call}
use Rattle.host_core.specs.declared.fault.HostFault.{HostFault}
use Rattle.diversions.specs.Ways.{Ways}
use Rattle.file_lists.specs.Filed.{Filed}
use Rattle.removal_engine.specs.Units.{HasCalled, HasEnded, HasRemoved, IsAmidUnit, IsRemovable, given}
use Rattle.removal_engine.specs.declared.extent.Extent.TheVariants.{InFavour}
use Rattle.status_db.specs.Recorded.{Recorded}
use Rattle.status_records.specs.Records.{record_in}
use Rattle.status_records.specs.declared.record.Record.{Record}
use Rattle.held_administration.specs.Order.{IsInOrder}
use Rattle.unit_stages.specs.Holding.{Holding, holding}
use Rattle.undo_rows.specs.declared.rows.Called.{Called}
use Rattle.conflict_removal.specs.Removals.{IsRemovedOrGone}

module _ (ways : Ways) (name : List ℕ) (before : Holding) where
  pub removed_one : (d : Recorded) (f : Filed) (s t : State) (told now : List Called) (result : Result (Option Call) HostFault) → IfOk result (λ failed. HasRemoved (given InFavour name ways before) failed (holding d f) s t told now)
      → IfOk result (λ failed. HasEnded InFavour name failed before.records d.records) → IfOk result (λ failed. Needs t (IsInOrder d f.lists))
      → IfOk result (λ failed. IsRemovedOrGone ways name failed before (holding d f) s t told now)
  removed_one d f s t told now (Ok failed) unit ended order = IsRemovedOrGone.removed unit ended (λ h. record { recorded = d; are = refl; order = order h })
  removed_one d f s t told now (Err fault) unit ended order = tt

  -- it is passed over
  pub passed_here : (s : State) (told : List Called) → (IsRemovable InFavour before.records name → ⊥) → IsRemovedOrGone ways name None before before s s told told
  passed_here s told gone = IsRemovedOrGone.passed gone refl refl refl refl

  pub called_here : (s : State) (told : List Called) → HasCalled (given InFavour name ways before) s s told told
  called_here s told = HasCalled.unplanned (record { honest = λ h. h; scripts = refl }) refl

  pub since_here : (s : State) → AtEachMomentOf (IsAmidUnit (given InFavour name ways before)) s s
  since_here s = since_start (IsAmidUnit (given InFavour name ways before) s.world) s (inl (refl, refl))

-- records of others are as before
pub ended_others : (name : List ℕ) (before after : List Record) (result : Result (Option Call) HostFault) → IfOk result (λ failed. HasEnded InFavour name failed before after) → OnOk result ((q : List ℕ) → q ≢ name → record_in after q ≡ record_in before q)
ended_others name before after (Ok failed) ended = ended.others
ended_others name before after (Err fault) ended = tt
