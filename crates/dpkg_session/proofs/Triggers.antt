-- What the processing of triggers carries over.
use Rattle.std.proofs.Common.{◌≡◌, inl, ℕ, Bool, List, [], Option, Some, None, refl, sym, ap, subst}
use Rattle.std.specs.Prelude.{is_some, true, IfSome, IsTrue}
use Rattle.host_core.specs.Host.{State, Since}
use Rattle.host_core.proofs.Moments.{since_start}
use Rattle.status_records.specs.declared.record.Record.{Record}
use Rattle.trigger_engine.specs.Stages.{AreTriggerStages}
use Rattle.trigger_run.specs.Names.{once}
use Rattle.trigger_run.specs.Run.{HasRun, IsAmidRun, IsTriggerRun}
use Rattle.trigger_run.specs.Turns.{IsAmidNext, IsAmidTurn, IsTurn, ProcessesTo}
use Rattle.trigger_run.specs.Units.{IsProcessing, IsUnitOf}
use Rattle.unit_reports.specs.Held.{Held}
use Rattle.unit_reports.specs.declared.report.Report.{Report}
use Rattle.unit_reports.specs.declared.report.Unit.{Unit as AUnit}
use Rattle.unit_runs.proofs.Going.{since_turns_start, still_here}
use Rattle.unit_runs.specs.Turns.{TurnsTo}
use Rattle.unit_stages.specs.declared.stage.Stage.{Stage}
use Rattle.dpkg_session.specs.Diversions.{HasBroken, IsBrokenDiversion}
use Rattle.dpkg_session.proofs.Carries.{Carries, carries_here, carries_stages, carries_still, carries_then}
use Rattle.dpkg_session.proofs.Configures.{is_named}
use Rattle.dpkg_session.proofs.Keeping.{AreOwn}
use Rattle.dpkg_session.proofs.Staying.{AreOwnStages}
use Rattle.dpkg_session.proofs.Told.{no_calls}

-- its stages note records of the package, and change no place of the administration beside
plan_own : (r : Record) (name : List ℕ) → r.name ≡ name → (stored : Bool) (stages : List Stage) → AreTriggerStages r stored stages → AreOwnStages name stages
plan_own r name own stored stages is =
    subst (AreOwnStages name) (sym is.are) (
      record { parts = subst (AreOwn name) (sym is.notes) ((own, refl), tt); restore = subst (AreOwn name) (sym is.no_restore) tt },
      (record { parts = subst (AreOwn name) (sym is.installs) ((own, refl), tt); restore = subst (AreOwn name) (sym is.no_restore_either) tt }, tt),
    )

processing_carries : (name : List ℕ) (before after : Held) (u : AUnit) (s t : State) → IsProcessing name before after u s t → Carries before after s t
processing_carries name before after u s t is =
    let whole = is.processed.processed in
    let plan = whole.plan in
    carries_stages name whole.stages is.failed before after s is.processed.m t [] u.calls.items (ap is_some plan.found)
    (plan_own plan.entry name (is_named before.records.records name plan.entry plan.found) plan.plan.stored whole.stages plan.plan.stages_are) whole.run is.processed.disk is.order is.ways

unit_carries : (name : List ℕ) (before after : Held) (u : AUnit) (s t : State) → IsUnitOf name before after u s t → Carries before after s t
unit_carries name before after u s t (IsUnitOf.processed pending runs) = processing_carries name before after u s t runs.is
unit_carries name before after u s t (IsUnitOf.passed_over none quiet held here) =
    carries_still before after s t held (λ h. subst (λ (x : State). IsTrue x.honest) here h) (λ h. ap (λ (x : State). x.world) here)

turns_carry : (start : List (List ℕ)) (before : Held) (s : State) (us : List AUnit) (left : List (List ℕ)) (after : Held) (t : State) → ProcessesTo start before s us left after t → Carries before after s t
turns_carry start before s us left after t TurnsTo.begun = carries_here before s
turns_carry start before s us left after t (TurnsTo.turned done u mid_left later mid ends m end come turn) =
    carries_then before mid after s m t (turns_carry start before s done mid_left mid m come) (unit_carries turn.name mid after u m t turn.is)

pub triggers_carry : (names : List (List ℕ)) (us : List AUnit) (before after : Held) (s t : State) → IsTriggerRun names us before after s t → Carries before after s t
triggers_carry names us before after s t run = turns_carry (once names) before s us [] after t run

-- there was no memory for the names

still_next : (left : List (List ℕ)) (before : Held) (s : State) → Since (λ so_far now. IsAmidNext left before s.world so_far now) s s
still_next left before s = since_start (λ so_far now. IsAmidNext left before s.world so_far now) s (inl (still_here s.world))

pub none_processed : (names : List (List ℕ)) (before : Held) (s : State) (report : Report) → HasBroken report → is_some report.last ≡ true → HasRun names report.units.items report.last before s s
none_processed names before s report broken some = by report.last broken some
  where
    by : (last : Option AUnit) → IfSome last (λ u. (report.units.items ≡ []) × IsBrokenDiversion u) → is_some last ≡ true → HasRun names report.units.items last before s s
    by None is none = cc
    by (Some u) is there = record {
      left = once names;
      after = before;
      end = s;
      turns = subst (λ (us : List AUnit). TurnsTo IsTurn (once names) before s us (once names) before s) (sym is.0) TurnsTo.begun;
      since = still_next (once names) before s;
      broken = record { broken = is.1.broken; untouched = is.1.touched; called = inl (no_calls u s is.1.calls) };
    }

-- at the beginning, at which nothing is processed yet
pub since_none_processed : (names : List (List ℕ)) (before : Held) (s : State) → Since (IsAmidRun names before s) s s
since_none_processed names before s = since_turns_start IsTurn (once names) before s (λ left behind. IsAmidTurn left) (λ later. Unit {0}) tt
