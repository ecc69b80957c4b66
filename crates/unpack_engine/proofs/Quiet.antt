-- Events that call no script add nothing to what is said of a unit at a moment.
use Rattle.std.proofs.Common.{◌≡◌, inl, inr, List, [], ◌++◌, sym, ap, subst, ◌∙◌, append_assoc}
use Rattle.std.proofs.lemmas.List.{append-nil}
use Rattle.host_core.specs.Paths.{Path}
use Rattle.host_core.specs.World.{World}
use Rattle.host_core.specs.Events.{Event, changes_of, scripts_of}
use Rattle.host_core.proofs.Moments.{scripts_of-append}
use Rattle.host_core.proofs.Scripts.{changes_of-append, no_change}
use Rattle.status_db.specs.Held.{HasRecords}
use Rattle.unpack_plan.specs.Planned.{Planned}
use Rattle.unpack_rows.specs.Kinds.{kinds_of}
use Rattle.unpack_rows.specs.Stages.{stage_of}
use Rattle.unpack_steps.specs.At.{IsAmid as AreFilesAmid, Stops, table_at}
use Rattle.unpack_steps.specs.Task.{state_on}
use Rattle.unpack_steps.specs.Trail.{HasCome}
use Rattle.unpack_engine.specs.Units.{Given, Ground, IsAmid, IsAmidUnit, IsRunning, IsStage, IsUnderWay, ground_of, last_place, stage_records, task_from}
use Rattle.unpack_engine.proofs.UnderWay.{IsStaged}

quiet_changes : (x quiet : List Event) → scripts_of quiet ≡ [] → changes_of (x ++ quiet) ≡ changes_of x
quiet_changes x quiet none = changes_of-append x quiet ∙ ap (λ l. changes_of x ++ l) (no_change quiet none) ∙ append-nil (changes_of x)

quiet_scripts : (x quiet : List Event) → scripts_of quiet ≡ [] → scripts_of x ≡ [] → scripts_of (x ++ quiet) ≡ []
quiet_scripts x quiet none silent = scripts_of-append x quiet ∙ ap (λ (l : List Event). l ++ scripts_of quiet) silent ∙ none

module _ (g : Ground) (p : Planned) (old : World) (x quiet : List Event) (now : World) (none : scripts_of quiet ≡ []) where
  staged_still : (stage : IsStage g p old x now) → HasRecords now (stage_records g p old x now stage) → IsStaged g p old (x ++ quiet) now
  staged_still (IsStage.running (IsRunning.beginning silent may)) has = (IsStage.running (IsRunning.beginning (quiet_scripts x quiet none silent) may), has)
  staged_still (IsStage.running (IsRunning.running begun before more is silent begins stops)) has =
      let still : Stops (task_from g p begun) (begun.events ++ (more ++ quiet)) now = record {
        since = stops.since ++ quiet;
        events = sym (append_assoc begun.events more quiet) ∙ ap (λ (l : List Event). l ++ quiet) stops.events ∙ append_assoc begun.events stops.since quiet;
        place = stops.place;
        within = stops.within;
        records = stops.records;
        opens = stops.opens;
        ready = stops.ready;
        base = stops.base;
        cleared = stops.cleared;
        files = subst (λ c. AreFilesAmid (task_from g p (state_on begun stops.base)) (table_at (task_from g p begun) stops.place) c now) (sym (quiet_changes stops.since quiet none)) stops.files;
      } in
      (IsStage.running (IsRunning.running begun before (more ++ quiet) (ap (λ (l : List Event). l ++ quiet) is ∙ append_assoc before more quiet) silent begins still), has)
  staged_still (IsStage.leaving ended works begun last begins are came may) has = (
    IsStage.leaving ended works begun last begins are
        (subst (λ c. HasCome (task_from g p begun) (stage_of (kinds_of p.found p.others) (last_place g p ended)) works c last) (sym (quiet_changes x quiet none)) came) may,
    has,
  )

  under_way_still : IsUnderWay g p old x now → IsUnderWay g p old (x ++ quiet) now
  under_way_still is =
      let staged = staged_still is.stage is.records in
      record { stage = staged.0; records = staged.1; opens = is.opens; incoming = is.incoming; loose = is.loose }

module _ (g : Given) (places : List Path) (old : World) (x quiet : List Event) (now : World) (none : scripts_of quiet ≡ []) where
  amid_still : IsAmid g places old x now → IsAmid g places old (x ++ quiet) now
  amid_still amid = record {
    plan = amid.plan;
    plan_for = amid.plan_for;
    under_way = under_way_still (ground_of g places) amid.plan old x quiet now none amid.under_way;
  }

  pub amid_unit_still : IsAmidUnit g places old x now → IsAmidUnit g places old (x ++ quiet) now
  amid_unit_still (inl here) = inl (here.0, quiet_scripts x quiet none here.1)
  amid_unit_still (inr amid) = inr (amid_still amid)
