-- A unit that is planned first: what it only looks at before changes nothing of what is run then.
use Rattle.std.proofs.Common.{◌≡◌, ℕ, IsTrue, true, List, [], ◌∷◌, ◌++◌, Option, inl, inr, refl, sym, ap, subst, ◌∙◌, arith}
use Rattle.std.specs.Prelude.{Result, Ok, Err, IfOk}
use Rattle.host_core.specs.World.{World}
use Rattle.host_core.proofs.Counted.{faults_of-append}
use Rattle.host_core.specs.Events.{Event, Ran, Did, Finished, Cut, Failed, Denied, faults_of, scripts_of}
use Rattle.host_core.specs.Host.{State, AllFailed, AtEachMomentOf, Reads, Silent, faults, finished, WasDenied}
use Rattle.host_core.specs.Loss.{IsLater}
use Rattle.host_core.proofs.Denials.{denied_later_reads}
use Rattle.host_core.proofs.Moments.{since_reads, since_then, since_weaker_if, silent_then}
use Rattle.host_core.specs.declared.call.Call.{Call}
use Rattle.undo_rows.specs.Telling.{Begun}
use Rattle.diversions.specs.Ways.{Ways}
use Rattle.undo_rows.specs.declared.rows.Called.{Called}
use Rattle.unit_stages.specs.Parts.{HaveDone}
use Rattle.unit_stages.proofs.Denied.{parts_wider}
use Rattle.unit_stages.specs.declared.part.Part.{Part}
use Rattle.unit_stages.specs.Calls.{MayRunStages}
use Rattle.unit_stages.specs.Holding.{Holding}
use Rattle.unit_stages.specs.Running.{AreRunning}
use Rattle.unit_stages.specs.Runs.{DoesParts, HaveRun}
use Rattle.unit_stages.specs.declared.stage.Stage.{Stage}
use Rattle.trigger_engine.specs.Units.{Given, HasCalled, HasProcessed, IsAmidUnit, IsPlanOf}

none_failed : (es : List Event) → AllFailed es → faults_of es ≡ 0 → es ≡ []
none_failed [] all none = refl
none_failed (Did step ∷ es) all none = absurd all
none_failed (Finished ran ∷ es) all none = absurd all
none_failed (Cut call change ∷ es) all none = absurd all
none_failed (Failed ∷ es) all none = absurd (omega (arith, none))
none_failed (Denied path ∷ es) all none = absurd all

quiet_failed : (es : List Event) → AllFailed es → scripts_of es ≡ []
quiet_failed [] all = refl
quiet_failed (Did step ∷ es) all = absurd all
quiet_failed (Finished ran ∷ es) all = absurd all
quiet_failed (Cut call change ∷ es) all = absurd all
quiet_failed (Failed ∷ es) all = quiet_failed es all
quiet_failed (Denied path ∷ es) all = absurd all

begun_behind : (P : List Ran → Type 0) (a b c : State) (told now : List Called) → Silent a b → Begun P b c told now → Begun P a c told now
begun_behind P a b c told now silent begun = record {
  ts = begun.ts;
  more = begun.more;
  first_of = begun.first_of;
  honest = λ h. silent.honest (begun.honest h);
  cut = begun.cut;
  scripts = begun.scripts ∙ ap (λ (l : List Event). l ++ (finished begun.ts ++ begun.cut)) silent.scripts;
  cut_short = begun.cut_short;
  tells = begun.tells;
}

pub if_ok_one : {T E : Type 0} (result : Result T E) (P R : T → Type 0) → ((x : T) → P x → R x) → IfOk result P → IfOk result R
if_ok_one (Ok x) P R so p = so x p
if_ok_one (Err e) P R so p = tt

module _ (old mid : State) (reads : Reads old mid) (silent : Silent old mid) where
  later_behind : (new : State) → IsLater mid new → IsLater old new
  later_behind new later = since_then (λ so_far w. Unit {0}) old mid new (since_reads (λ so_far w. Unit {0}) old mid reads (λ es all. tt)) later

  does_behind : (name : List ℕ) (parts : List Part) (h : Holding) (ready : State) → DoesParts name parts h mid ready → DoesParts name parts h old ready
  does_behind name parts h ready does = record {
    silent = silent_then old mid ready silent does.silent;
    later = later_behind ready does.later;
    done = λ t. subst (λ (w : World). HaveDone name (WasDenied old ready) parts h.records w ready.world) reads.world
        (parts_wider name (WasDenied mid ready) (WasDenied old ready) (λ p is. denied_later_reads old mid ready p reads is) parts h.records mid.world ready.world (does.done t));
  }

  run_behind : (name : List ℕ) (ways : Ways) (first : Stage) (stages : List Stage) (failed : Option Call) (before after : Holding) (new : State) (told now : List Called) → HaveRun name ways (first ∷ stages) failed before after mid new told now
      → HaveRun name ways (first ∷ stages) failed before after old new told now
  run_behind name ways first stages failed before after new told now (inl passed) = inl record {
    mid = passed.mid;
    more = passed.more;
    passed = record { ready = passed.passed.ready; parts = does_behind name first.parts.items before passed.passed.ready passed.passed.parts; calls = passed.passed.calls };
    further = passed.further;
  }
  run_behind name ways first stages failed before after new told now (inr fell) = inr record {
    ready = fell.ready;
    parts = does_behind name first.parts.items before fell.ready fell.parts;
    fell = fell.fell;
  }

  module _ (g : Given) where
    pub only_looked : AtEachMomentOf (IsAmidUnit g) old mid
    only_looked = since_reads (IsAmidUnit g old.world) old mid reads (λ es all. inl (refl, quiet_failed es all))

    -- the plan is told by what was seen
    module _ (stages : List Stage) (plan : IsPlanOf g old.world mid.honest stages) (new : State) (falls : IsTrue new.honest → IsTrue mid.honest) where
      plan_seen : IsPlanOf g old.world new.honest stages
      plan_seen = record {
        entry = plan.entry;
        found = plan.found;
        plan = record {
          stored = plan.plan.stored;
          seen = λ h. plan.plan.seen (falls h);
          stages_are = plan.plan.stages_are;
        };
      }

      plan_true : IsTrue new.honest → IsPlanOf g old.world true stages
      plan_true h = record {
        entry = plan.entry;
        found = plan.found;
        plan = record {
          stored = plan.plan.stored;
          seen = λ t. plan.plan.seen (falls h);
          stages_are = plan.plan.stages_are;
        };
      }

      nothing : faults mid ≡ faults old → reads.added ≡ []
      nothing counts = none_failed reads.added reads.failed (omega (arith, counts, ap faults_of reads.events, faults_of-append old.events reads.added))

      -- where no fault was told nothing has happened
      abbrev quiet_moments : faults mid ≡ faults old → AtEachMomentOf (IsAmidUnit g) old mid
      quiet_moments counts = record {
        added = [];
        events = reads.events ∙ ap (λ (es : List Event). old.events ++ es) (nothing counts);
        honest = reads.honest;
        world = reads.world;
        each = λ h. inl (refl, refl);
      }

      pub unit_moments : faults mid ≡ faults old → AtEachMomentOf (AreRunning g.name g.ways stages g.before) mid new → AtEachMomentOf (IsAmidUnit g) old new
      unit_moments counts moments = since_then (IsAmidUnit g old.world) old mid new (quiet_moments counts)
          (since_weaker_if (AreRunning g.name g.ways stages g.before mid.world) (IsAmidUnit g old.world) mid new
          (λ h so_far now is. inr record { stages = stages; plan = plan_true h; running = subst (λ (w : World). AreRunning g.name g.ways stages g.before w so_far now) reads.world is }) moments)

      module _ (told now : List Called) where
        pub called_by : Begun (MayRunStages stages) mid new told now → HasCalled g old new told now
        called_by begun = HasCalled.planned stages plan_seen (begun_behind (MayRunStages stages) old mid new told now silent begun)

        pub processed_by : (failed : Option Call) (after : Holding) → HaveRun g.name g.ways stages failed g.before after mid new told now → HasProcessed g failed after old new told now
        processed_by failed after run =
            let is = plan.plan.stages_are in
            record {
              stages = stages;
              plan = plan_seen;
              run = subst (λ (ss : List Stage). HaveRun g.name g.ways ss failed g.before after old new told now) (sym is.are)
                  (run_behind g.name g.ways is.first (is.second ∷ []) failed g.before after new told now (subst (λ (ss : List Stage). HaveRun g.name g.ways ss failed g.before after mid new told now) is.are run));
            }
