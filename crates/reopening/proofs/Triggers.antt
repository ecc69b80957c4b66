-- Triggers that are processed, of one package after another: the next opening can read all at each moment.
use Rattle.std.proofs.Common.{◌≡◌, inl, inr, ℕ, Bool, List, [], Option, refl, sym, subst}
use Rattle.host_core.specs.Events.{Event}
use Rattle.host_core.specs.Host.{State}
use Rattle.host_core.proofs.Moments.{since_weaker_if}
use Rattle.host_core.specs.World.{World}
use Rattle.held_administration.specs.Order.{record_names}
use Rattle.removal_engine.proofs.Tables.{is_named}
use Rattle.status_records.specs.declared.record.Record.{Record}
use Rattle.trigger_engine.specs.Stages.{AreTriggerStages}
use Rattle.trigger_engine.specs.Units.{IsAmidUnit}
use Rattle.trigger_run.specs.Names.{once}
use Rattle.trigger_run.specs.Run.{HasRun}
use Rattle.trigger_run.specs.Turns.{IsAmidTurn, IsTurn}
use Rattle.trigger_run.specs.Units.{IsAmidProcessing, IsProcessing, IsUnitOf, given_by}
use Rattle.unit_reports.specs.Held.{Held}
use Rattle.unit_reports.specs.declared.report.Unit.{Unit as AUnit}
use Rattle.unit_stages.specs.declared.stage.Stage.{Stage}
use Rattle.reopening.proofs.Parts.{AreSafeParts}
use Rattle.reopening.proofs.Sounds.{Goes, IsSound, goes_stages, sound_held, still_opens}
use Rattle.reopening.proofs.Stages.{AreSafeStages}
use Rattle.reopening.proofs.Turns.{Ends, Runs, runs_same, turns_end}
use Rattle.reopening.proofs.Units.{found_has, found_is_named, stages_open}
use Rattle.reopening.specs.Opens.{CanBeOpened}

-- the stages note records of the package
plan_safe : (r : Record) (name : List ℕ) → r.name ≡ name → (stored : Bool) (stages : List Stage) → AreTriggerStages r stored stages → AreSafeStages name stages
plan_safe r name own stored stages is =
    subst (AreSafeStages name) (sym is.are) (
      record { parts = subst (AreSafeParts name) (sym is.notes) ((own, refl), tt); restore = subst (AreSafeParts name) (sym is.no_restore) tt },
      (record { parts = subst (AreSafeParts name) (sym is.installs) ((own, refl), tt); restore = subst (AreSafeParts name) (sym is.no_restore_either) tt }, tt),
    )

processing_goes : (name : List ℕ) (before after : Held) (u : AUnit) (s t : State) → IsProcessing name before after u s t → Goes before after s t
processing_goes name before after u s t is =
    let whole = is.processed.processed in
    let plan = whole.plan in
    goes_stages name whole.stages is.failed before after s is.processed.m t [] u.calls.items
    (λ r found. plan_safe plan.entry name (is_named before.records.records name plan.entry plan.found) plan.plan.stored whole.stages plan.plan.stages_are)
    plan.entry plan.found whole.run is.processed.disk is.order is.ways

module _ (name : List ℕ) (before : Held) (old : World) (so_far : List Event) (now : World) (sound : IsSound before old) where
  unit_opens : (front : List Event) → IsAmidUnit (given_by name before) old front now → CanBeOpened now
  unit_opens front (inl still) = still_opens before old now sound still.0
  unit_opens front (inr amid) =
      let names = record_names before.records.records in
      let held = sound_held before old sound in
      let plan = amid.plan in
      stages_open names before.ways name (found_is_named before.records.records name plan.entry plan.found) (found_has names before.records.records held.all name plan.entry plan.found) before.ways amid.stages (given_by name before).before old front now
      (plan_safe plan.entry name (is_named before.records.records name plan.entry plan.found) plan.plan.stored amid.stages plan.plan.stages_are) held amid.running

  processing_opens : IsAmidProcessing name before old so_far now → CanBeOpened now
  processing_opens amid = unit_opens amid.front amid.amid

unit_runs : (name : List ℕ) (before after : Held) (u : AUnit) (s t : State) → IsUnitOf name before after u s t → Runs before after s t
unit_runs name before after u s t (IsUnitOf.processed pending runs) = record {
  goes = processing_goes name before after u s t runs.is;
  opened = λ sound. since_weaker_if _ _ s t (λ h so_far now amid. processing_opens name before s.world so_far now (sound (runs.moments.honest h)) amid) runs.moments;
}
unit_runs name before after u s t (IsUnitOf.passed_over none quiet held here) = runs_same before after s t held here

turn_runs : (left : List (List ℕ)) (before : Held) (u : AUnit) (later : List (List ℕ)) (after : Held) (s t : State) → IsTurn left before u later after s t → Runs before after s t
turn_runs left before u later after s t turn = unit_runs turn.name before after u s t turn.is

next_opens : (left later : List (List ℕ)) (before : Held) (old : World) (so_far : List Event) (now : World) → IsSound before old → IsAmidTurn left before old so_far now → CanBeOpened now
next_opens left later before old so_far now sound next = processing_opens next.0 before old so_far now sound next.2

pub triggers_end : (names : List (List ℕ)) (us : List AUnit) (last : Option AUnit) (before : Held) (s t : State) → HasRun names us last before s t → Ends before s t
triggers_end names us last before s t has = turns_end IsTurn turn_runs (λ left later. IsAmidTurn left) next_opens (once names) has.left has.left before has.after s has.end t us has.turns has.since
