-- A unit that is planned first: what it only looks at before changes nothing of what is carried out then.
use Rattle.std.proofs.Common.{◌≡◌, IsTrue, true, List, [], ◌∷◌, ◌++◌, inl, inr, refl, sym, ap, subst, ◌∙◌, append_assoc}
use Rattle.std.specs.Prelude.{Err, IfOk, Ok, OnOk, Option, Result}
use Rattle.host_core.specs.Paths.{Path}
use Rattle.host_core.specs.World.{World}
use Rattle.host_core.specs.Events.{Event, Did, Finished, Cut, Failed, Denied, changes_of, scripts_of}
use Rattle.host_core.specs.Host.{State, AllFailed, AtEachMomentOf, Reads, Silent}
use Rattle.host_core.proofs.Moments.{scripts_of-append, since_reads, since_then, since_weaker_if, silent_then}
use Rattle.host_core.proofs.Scripts.{changes_of-append, no_change, silent_added}
use Rattle.undo_rows.specs.Ended.{IsCauseOf}
use Rattle.undo_rows.specs.Transcripts.{Ended}
use Rattle.undo_rows.specs.declared.rows.Row.{Row}
use Rattle.undo_rows.specs.declared.unwinding.Unwinding.{Unwinding}
use Rattle.diversions.specs.Ways.{Ways}
use Rattle.file_lists.specs.declared.paths.PackageList.{PackageList}
use Rattle.status_db.specs.Held.{HasRecords}
use Rattle.status_db.specs.Recorded.{Recorded}
use Rattle.undo_rows.specs.declared.rows.Called.{Called}
use Rattle.unpack_plan.specs.Planned.{IsPlanned, Planned}
use Rattle.unpack_steps.specs.Trail.{HasCome}
use Rattle.unpack_rows.specs.Kinds.{kinds_of}
use Rattle.unpack_rows.specs.Stages.{stage_of}
use Rattle.unpack_engine.specs.Tables.{HasCarriedOutPlan, IsUnderWayByEither}
use Rattle.unpack_engine.specs.Units.{Begins, Given, Ground, HasCalled, HasCalledRows, HasCarriedOut, HasFailedFor, HasUnpacked, IsAmidEither, IsAmidUnit, IsPlanFor, IsRunning, IsStage, IsUnderWay, ground_of, job_of, last_place, stage_records, task_from}
use Rattle.unpack_engine.proofs.Sequel.{called_behind}
use Rattle.unpack_engine.proofs.UnderWay.{IsStaged}

none_before : (es fs : List Event) → scripts_of es ≡ [] → scripts_of fs ≡ [] → scripts_of (es ++ fs) ≡ []
none_before es fs first second = scripts_of-append es fs ∙ ap (λ (l : List Event). l ++ scripts_of fs) first ∙ second

same_before : (es fs : List Event) → scripts_of es ≡ [] → changes_of (es ++ fs) ≡ changes_of fs
same_before es fs none = changes_of-append es fs ∙ ap (λ c. c ++ changes_of fs) (no_change es none)

-- what was looked at before is no part of a stage
module _ (g : Ground) (p : Planned) (old : World) (early : List Event) (none : scripts_of early ≡ []) where
  staged_behind : (so_far : List Event) (now : World) (stage : IsStage g p old so_far now) → HasRecords now (stage_records g p old so_far now stage) → IsStaged g p old (early ++ so_far) now
  staged_behind so_far now (IsStage.running (IsRunning.beginning quiet may)) has = (IsStage.running (IsRunning.beginning (none_before early so_far none quiet) may), has)
  staged_behind so_far now (IsStage.running (IsRunning.running begun before more is quiet begins stops)) has = (
    IsStage.running (
        IsRunning.running begun (early ++ before) more (ap (λ (l : List Event). early ++ l) is ∙ sym (append_assoc early before more)) (none_before early before none quiet) begins stops
        ),
    has,
  )
  staged_behind so_far now (IsStage.leaving ended works begun last begins are come may) has = (
    IsStage.leaving ended works begun last begins are
        (subst (λ c. HasCome (task_from g p begun) (stage_of (kinds_of p.found p.others) (last_place g p ended)) works c last) (sym (same_before early so_far none)) come) may,
    has,
  )

  pub under_way_behind : (so_far : List Event) (now : World) → IsUnderWay g p old so_far now → IsUnderWay g p old (early ++ so_far) now
  under_way_behind so_far now is =
      let staged = staged_behind so_far now is.stage is.records in
      record { stage = staged.0; records = staged.1; opens = is.opens; incoming = is.incoming; loose = is.loose }

pub none_failed : (es : List Event) → AllFailed es → scripts_of es ≡ []
none_failed [] all = refl
none_failed (Did step ∷ es) all = elim all [ ]
none_failed (Finished ran ∷ es) all = elim all [ ]
none_failed (Cut call change ∷ es) all = elim all [ ]
none_failed (Failed ∷ es) all = none_failed es all
none_failed (Denied path ∷ es) all = elim all [ ]

module _ (g : Given) (places : List Path) (old mid : State) (reads : Reads old mid) (silent : Silent old mid) where
  -- the plan is told by what was seen
  module _ (plan : Planned) (plan_for : IsPlanFor g old.world mid.honest plan) (new : State) (falls : IsTrue new.honest → IsTrue mid.honest) where
    pub planned_for : IsPlanFor g old.world new.honest plan
    planned_for = record { stored = plan_for.stored; seen = λ h. plan_for.seen (falls h); planned = plan_for.planned }

    module _ (told now : List Called) where
      pub called_of : HasCalledRows plan.rows mid new told now → HasCalled g old new told now
      called_of calls = HasCalled.planned plan planned_for (called_behind plan.rows old mid new told now silent calls)

      module _ (ended : Ended) (after : Recorded) (lists : List PackageList) where
        pub carried_behind : HasCarriedOut (ground_of g places) plan ended after lists mid new told now → HasCarriedOut (ground_of g places) plan ended after lists old new told now
        carried_behind carried = record {
          mid = carried.mid;
          last = carried.last;
          ran = record {
            begun = carried.ran.begun;
            quiet = silent_then old mid carried.ran.begun silent carried.ran.quiet;
            until = since_then (λ so_far w. Unit {0}) old mid carried.ran.begun (since_reads (λ so_far w. Unit {0}) old mid reads (λ es all. tt)) carried.ran.until;
            begins_so = λ h. subst (λ w. Begins (ground_of g places) plan w carried.ran.begun.world) reads.world (carried.ran.begins_so h);
            run = carried.ran.run;
            between = carried.ran.between;
            rows_end = carried.ran.rows_end;
          };
          since = carried.since;
          later = carried.later;
          leaves = carried.leaves;
          stays = carried.stays;
          records = carried.records;
          lists_are = carried.lists_are;
        }

        pub unpacked_by : HasCarriedOut (ground_of g places) plan ended after lists mid new told now → HasUnpacked g places ended after lists old new told now
        unpacked_by carried = record { plan = plan; plan_for = planned_for; carried_out = carried_behind carried }

-- At each moment of a unit whose table may be read again: by the plan as it began, or by another one of the same job and the other table.
pub looked_moments : (g : Given) (ways : Ways) (places : List Path) (old mid : State) → Reads old mid → AtEachMomentOf (IsAmidEither g (record g { ways = ways }) places) old mid
looked_moments g ways places old mid reads = since_reads (IsAmidEither g (record g { ways = ways }) places old.world) old mid reads (λ es all. inl (inl (refl, none_failed es all)))

module _ (g : Given) (ways : Ways) (places : List Path) (old mid : State) (reads : Reads old mid) (silent : Silent old mid) (plan : Planned) (plan_for : IsPlanFor g old.world mid.honest plan) (new : State) where
  abbrev late : Given
  late = record g { ways = ways }

  looked : AtEachMomentOf (IsAmidEither g late places) old mid
  looked = looked_moments g ways places old mid reads

  amid_either : (falls : IsTrue new.honest → IsTrue mid.honest) → IsTrue new.honest → (so_far : List Event) (now : World)
      → IsUnderWayByEither (job_of g plan_for.stored) plan ways (ground_of g places) mid.world so_far now → IsAmidEither g late places old.world (looked.added ++ so_far) now
  amid_either falls h so_far now (inl way) = inl (inr (record {
    plan = plan;
    plan_for = record { stored = plan_for.stored; seen = λ t. plan_for.seen (falls h); planned = plan_for.planned };
    under_way = under_way_behind (ground_of g places) plan old.world looked.added (silent_added old mid looked.added silent looked.events) so_far now (subst (λ w. IsUnderWay (ground_of g places) plan w so_far now) reads.world way);
  }))
  amid_either falls h so_far now (inr (other, planned, way)) = inr (inr (record {
    plan = other;
    plan_for = record { stored = plan_for.stored; seen = λ t. plan_for.seen (falls h); planned = planned };
    under_way = under_way_behind (ground_of late places) other old.world looked.added (silent_added old mid looked.added silent looked.events) so_far now (subst (λ w. IsUnderWay (ground_of late places) other w so_far now) reads.world way);
  }))

  pub either_amid : (falls : IsTrue new.honest → IsTrue mid.honest) → AtEachMomentOf (IsUnderWayByEither (job_of g plan_for.stored) plan ways (ground_of g places)) mid new → AtEachMomentOf (IsAmidEither g late places) old new
  either_amid falls moments = since_then (IsAmidEither g late places old.world) old mid new looked
      (since_weaker_if (IsUnderWayByEither (job_of g plan_for.stored) plan ways (ground_of g places) mid.world) (λ so_far. IsAmidEither g late places old.world (looked.added ++ so_far)) mid new
      (λ h so_far now is. amid_either falls h so_far now is) moments)

  -- the plan that was carried out is one for the other table
  pub planned_late : (falls : IsTrue new.honest → IsTrue mid.honest) (other : Planned) → IsPlanned (job_of late plan_for.stored) other → IsPlanFor late old.world new.honest other
  planned_late falls other planned = record { stored = plan_for.stored; seen = λ h. plan_for.seen (falls h); planned = planned }

  planned_late_mid : (other : Planned) → IsPlanned (job_of late plan_for.stored) other → IsPlanFor late old.world mid.honest other
  planned_late_mid other planned = record { stored = plan_for.stored; seen = plan_for.seen; planned = planned }

  module _ (falls : IsTrue new.honest → IsTrue mid.honest) (told now : List Called) (ended : Ended) (after : Recorded) (lists : List PackageList) (rows : List Row)
      (has : HasCarriedOutPlan (job_of late plan_for.stored) (ground_of late places) rows ended after lists mid new told now) where
    pub unpacked_late : HasUnpacked late places ended after lists old new told now
    unpacked_late = unpacked_by late places old mid reads silent has.plan (planned_late_mid has.plan has.planned) new falls told now ended after lists has.carried_out

    pub failed_late : (u : Option Unwinding) → IsCauseOf rows u → HasFailedFor late old new u
    failed_late u cause = record { plan = has.plan; plan_for = planned_late falls has.plan has.planned; cause = subst (λ (l : List Row). IsCauseOf l u) (sym has.rows_are) cause }

    pub carried_late : HasCarriedOut (ground_of late places) has.plan ended after lists old new told now
    carried_late = carried_behind late places old mid reads silent has.plan (planned_late_mid has.plan has.planned) new falls told now ended after lists has.carried_out

-- of an answer two things hold, one of them where the host was honest
pub if_ok_kept : {T E N : Type 0} (result : Result T E) (P R : T → Type 0) (A : Type 0) → ((x : T) → P x → (N → A) → R x) → IfOk result P → (N → OnOk result A) → IfOk result R
if_ok_kept (Ok x) P R A so p a = so x p a
if_ok_kept (Err e) P R A so p a = tt
