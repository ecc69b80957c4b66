-- What is only looked at before changes nothing of what is run then.
use Rattle.std.proofs.Common.{◌≡◌, inl, inr, IsTrue, ℕ, Bool, true, false, not, List, [], ◌∷◌, ◌++◌, map, Option, None, refl, sym, ap, subst, ◌∙◌, arith}
use Rattle.std.specs.Prelude.{Result, Ok, Err, IfOk, OnOk}
use Rattle.std.proofs.lemmas.List.{append-nil, append_cancel_left}
use Rattle.host_core.proofs.Counted.{faults_of-append}
use Rattle.host_core.specs.Events.{Event, Did, Finished, Cut, Failed, Denied, faults_of, scripts_of}
use Rattle.host_core.specs.Host.{State, AllFailed, Reads, Silent, Since, faults, WasDenied}
use Rattle.host_core.specs.Loss.{IsLater}
use Rattle.host_core.proofs.Denials.{denied_later_reads}
use Rattle.host_core.proofs.Moments.{since_reads, since_then, since_weaker_if, silent_then}
use Rattle.host_core.specs.World.{World}
use Rattle.host_core.specs.declared.call.Call.{Call}
use Rattle.diversions.specs.Ways.{Ways}
use Rattle.file_lists.specs.declared.paths.PackageList.{PackageList}
use Rattle.removal_engine.specs.Stages.{Planned, planned}
use Rattle.status_db.specs.Recorded.{Recorded}
use Rattle.held_administration.specs.Order.{IsInOrder}
use Rattle.unit_stages.specs.Parts.{HaveDone}
use Rattle.unit_stages.proofs.Denied.{parts_wider}
use Rattle.unit_stages.specs.declared.part.Part.{Part}
use Rattle.unit_stages.proofs.Keeping.{order_opens}
use Rattle.unit_stages.proofs.Tellings.{begun_behind}
use Rattle.unit_stages.specs.Calls.{MayRunStages}
use Rattle.unit_stages.specs.Holding.{Holding}
use Rattle.unit_stages.specs.Running.{AreRunning, IsOpenable}
use Rattle.unit_stages.specs.Runs.{DoesParts, HaveRun}
use Rattle.unit_stages.specs.declared.stage.Stage.{Stage}
use Rattle.undo_rows.specs.declared.rows.Called.{Called}
use Rattle.undo_rows.specs.Telling.{Begun}
use Rattle.disappearance.specs.Needed.{IsNeedOf}
use Rattle.disappearance.specs.Stages.{IsPlan}
use Rattle.disappearance.specs.Units.{HasCalledOne, HaveRunBoth, IsAmidBoth, IsAmidOne, IsAmidUnit, IsDecided, IsInOrderWith, IsRunningBoth}
use Rattle.disappearance.specs.Verdicts.{Goes, HasLost, IsThere, IsVerdict, Stays, is_empty}
use Rattle.disappearance.specs.declared.losing.Losing.{Losing}
use Rattle.disappearance.proofs.Plans.{nothing_planned}

none_failed : (es : List Event) → AllFailed es → faults_of es ≡ 0 → es ≡ []
none_failed [] all none = refl
none_failed (Did step ∷ es) all none = absurd all
none_failed (Finished ran ∷ es) all none = absurd all
none_failed (Cut call change ∷ es) all none = absurd all
none_failed (Failed ∷ es) all none = absurd (omega (arith, none))
none_failed (Denied path ∷ es) all none = absurd all

quiet_failed : (es : List Event) → AllFailed es → scripts_of es ≡ []
quiet_failed [] all = refl
quiet_failed (Did step ∷ es) all = absurd all
quiet_failed (Finished ran ∷ es) all = absurd all
quiet_failed (Cut call change ∷ es) all = absurd all
quiet_failed (Failed ∷ es) all = quiet_failed es all
quiet_failed (Denied path ∷ es) all = absurd all

pub if_ok_both : {T E : Type 0} (result : Result T E) (P R : T → Type 0) (Q : Type 0) → ((x : T) → P x → Q → R x) → IfOk result P → OnOk result Q → IfOk result R
if_ok_both (Ok x) P R Q so p q = so x p q
if_ok_both (Err e) P R Q so p q = tt

module _ (incoming : List ℕ) (ways : Ways) (l : Losing) (h : Holding) (w : World) (honest : Bool) where
  pub it_goes : (answer : Bool) → answer ≡ true → IsVerdict incoming ways l h w honest answer → Goes incoming ways l h w honest
  it_goes answer is verdict = subst (IsVerdict incoming ways l h w honest) is verdict

  pub it_stays : (answer : Bool) → answer ≡ false → IsVerdict incoming ways l h w honest answer → Stays incoming ways l h w honest
  it_stays answer is verdict = subst (IsVerdict incoming ways l h w honest) is verdict

  -- all but the last is met
  pub verdict_of : (needed : Bool) → IsThere h.records l.name → HasLost h.lists l → (IsTrue honest → is_empty ways h.lists l.name w ≡ true) → IsNeedOf incoming h.records l.name needed → IsVerdict incoming ways l h w honest (not needed)
  verdict_of true there lost empty need = Stays.needed there lost empty need
  verdict_of false there lost empty need = record { there = there; lost = lost; empty = empty; unneeded = need }

-- what was seen stays so while the host is believed no more than then

module _ (incoming version : List ℕ) (ways : Ways) (l : Losing) (h : Holding) (w : World) (a b : Bool) (falls : IsTrue b → IsTrue a) where
  pub goes_seen : Goes incoming ways l h w a → Goes incoming ways l h w b
  goes_seen goes = record { there = goes.there; lost = goes.lost; empty = λ t. goes.empty (falls t); unneeded = goes.unneeded }

  pub stays_seen : Stays incoming ways l h w a → Stays incoming ways l h w b
  stays_seen (Stays.unrecorded none) = Stays.unrecorded none
  stays_seen (Stays.absent r found not_there) = Stays.absent r found not_there
  stays_seen (Stays.whole there all) = Stays.whole there all
  stays_seen (Stays.blocked there lost is) = Stays.blocked there lost (λ t. is (falls t))
  stays_seen (Stays.needed there lost is needed) = Stays.needed there lost (λ t. is (falls t)) needed

  pub plan_seen : (call gone : List Stage) → IsPlan incoming version l.name h w a call gone → IsPlan incoming version l.name h w b call gone
  plan_seen call gone plan = record { stored = plan.stored; seen = λ t. plan.seen (falls t); stages = plan.stages }

module _ (old mid : State) (reads : Reads old mid) (silent : Silent old mid) where
  later_behind : (new : State) → IsLater mid new → IsLater old new
  later_behind new later = since_then (λ so_far w. Unit {0}) old mid new (since_reads (λ so_far w. Unit {0}) old mid reads (λ es all. tt)) later

  does_behind : (name : List ℕ) (parts : List Part) (h : Holding) (ready : State) → DoesParts name parts h mid ready → DoesParts name parts h old ready
  does_behind name parts h ready does = record {
    silent = silent_then old mid ready silent does.silent;
    later = later_behind ready does.later;
    done = λ t. subst (λ (w : World). HaveDone name (WasDenied old ready) parts h.records w ready.world) reads.world
        (parts_wider name (WasDenied mid ready) (WasDenied old ready) (λ p is. denied_later_reads old mid ready p reads is) parts h.records mid.world ready.world (does.done t));
  }

  run_behind : (name : List ℕ) (ways : Ways) (first : Stage) (stages : List Stage) (failed : Option Call) (before after : Holding) (new : State) (told now : List Called) → HaveRun name ways (first ∷ stages) failed before after mid new told now
      → HaveRun name ways (first ∷ stages) failed before after old new told now
  run_behind name ways first stages failed before after new told now (inl passed) = inl record {
    mid = passed.mid;
    more = passed.more;
    passed = record { ready = passed.passed.ready; parts = does_behind name first.parts.items before passed.passed.ready passed.passed.parts; calls = passed.passed.calls };
    further = passed.further;
  }
  run_behind name ways first stages failed before after new told now (inr fell) = inr record {
    ready = fell.ready;
    parts = does_behind name first.parts.items before fell.ready fell.parts;
    fell = fell.fell;
  }

  -- of stages of which there is one
  run_from : (name : List ℕ) (ways : Ways) (p : Planned) (stages : List Stage) → map planned stages ≡ p ∷ [] → (failed : Option Call) (before after : Holding) (new : State) (told now : List Called)
      → HaveRun name ways stages failed before after mid new told now → HaveRun name ways stages failed before after old new told now
  run_from name ways p [] are failed before after new told now run = absurd (nothing_planned p are)
  run_from name ways p (first ∷ rest) are failed before after new told now run = run_behind name ways first rest failed before after new told now run

  module _ (incoming version : List ℕ) (ways : Ways) (l : Losing) (h : Holding) where
    abbrev pub Q : List Event → World → Type 0
    Q so_far now = (now ≡ old.world) × (scripts_of so_far ≡ [])

    abbrev pub Amid : List Event → World → Type 0
    Amid so_far now = IsAmidUnit incoming version ways l h old so_far now

    -- while it is looked at
    pub looking_moments : (d : Recorded) (ls : List PackageList) → (IsTrue old.honest → IsInOrder d ls old.world) → Since Amid old mid
    looking_moments d ls order = since_weaker_if Q Amid old mid
        (λ honest so_far now is. record {
          unit = IsAmidOne.looking is.0 is.1;
          opens = (d.records, subst (IsOpenable d.records) (sym is.0) (order_opens d ls old.world (order (silent.honest honest))));
        })
        (since_reads Q old mid reads (λ es all. (refl, quiet_failed es all)))

    -- it was only looked at, and stays
    pub stayed_by : (names : List (List ℕ)) (failed : Option Call) (told : List Called) → names ≡ [] → failed ≡ None → Stays incoming ways l h old.world mid.honest → IsDecided incoming version ways l names failed h h old mid told told
    stayed_by names failed told none unfailed stays = IsDecided.stayed none unfailed (record { stays = stays; same = refl; reads = reads; silent = silent; untold = refl })

    module _ (call gone : List Stage) (goes : Goes incoming ways l h old.world mid.honest) (plan : IsPlan incoming version l.name h old.world mid.honest call gone) (new : State) (falls : IsTrue new.honest → IsTrue mid.honest) where
      going_seen : (b : Bool) → (IsTrue b → IsTrue mid.honest) → Goes incoming ways l h old.world b
      going_seen b so = goes_seen incoming version ways l h old.world mid.honest b so goes

      planned_seen : (b : Bool) → (IsTrue b → IsTrue mid.honest) → IsPlan incoming version l.name h old.world b call gone
      planned_seen b so = plan_seen incoming version ways l h old.world mid.honest b so call gone plan

      -- it disappeared
      pub gone_by : (names : List (List ℕ)) (failed : Option Call) (after : Holding) (told now : List Called) → names ≡ l.name ∷ [] → HaveRunBoth l.name ways call gone failed h after mid new told now
          → (IsTrue new.honest → IsInOrderWith after new.world) → IsDecided incoming version ways l names failed h after old new told now
      gone_by names failed after told now is run order = IsDecided.disappeared is (record {
        goes = going_seen new.honest falls;
        call = call;
        gone = gone;
        plan = planned_seen new.honest falls;
        run = record { mid = run.mid; called = run_from l.name ways _ call plan.stages.calls failed h h run.mid told now run.called; taken = run.taken };
        order = order;
      })

      pub called_by : (told now : List Called) → Begun (MayRunStages call) mid new told now → HasCalledOne incoming version ways l h old new told now
      called_by told now begun = HasCalledOne.called call gone (going_seen new.honest falls) (planned_seen new.honest falls) (begun_behind (MayRunStages call) old mid new told now silent begun)

      -- at each moment
      abbrev pub Running : List Event → World → Type 0
      Running so_far now = IsAmidBoth l.name ways call gone h mid so_far now

      same_events : faults mid ≡ faults old → mid.events ≡ old.events
      same_events counts = by (none_failed reads.added reads.failed (omega (arith, counts, ap faults_of reads.events, faults_of-append old.events reads.added)))
        where
          by : reads.added ≡ [] → mid.events ≡ old.events
          by none = reads.events ∙ ap (λ (es : List Event). old.events ++ es) none ∙ append-nil old.events

      both_from : mid.events ≡ old.events → (so_far : List Event) (now : World) → IsRunningBoth l.name ways call gone h mid so_far now → IsRunningBoth l.name ways call gone h old so_far now
      both_from same so_far now (IsRunningBoth.calling running) = IsRunningBoth.calling (subst (λ (w : World). AreRunning l.name ways call h w so_far now) reads.world running)
      both_from same so_far now (IsRunningBoth.behind behind) = IsRunningBoth.behind (record {
        failed = behind.failed;
        mid = behind.mid;
        told = behind.told;
        more = behind.more;
        called = run_from l.name ways _ call plan.stages.calls behind.failed h h behind.mid behind.told behind.more behind.called;
        honest = behind.honest;
        front = behind.front;
        rest = behind.rest;
        split = behind.split;
        events = behind.events ∙ ap (λ (es : List Event). es ++ behind.front) same;
        running = behind.running;
      })

      pub going_moments : (d : Recorded) (ls : List PackageList) → (IsTrue old.honest → IsInOrder d ls old.world) → faults mid ≡ faults old → Since Running mid new → Since Amid old new
      going_moments d ls order counts moments = by (looking_moments d ls order)
        where
          by : Since Amid old mid → Since Amid old new
          by looks = since_then Amid old mid new looks
              (since_weaker_if Running (λ so_far. Amid (looks.added ++ so_far)) mid new
              (λ honest so_far now is. record {
                unit = subst (λ (es : List Event). IsAmidOne incoming version ways l h old (es ++ so_far) now) (sym nothing)
                    (IsAmidOne.going (record {
                      goes = going_seen true (λ t. falls honest);
                      call = call;
                      gone = gone;
                      plan = planned_seen true (λ t. falls honest);
                      running = both_from (same_events counts) so_far now is.running;
                    }));
                opens = is.opens;
              }) moments)
            where
              nothing : looks.added ≡ []
              nothing = append_cancel_left old.events looks.added [] (sym looks.events ∙ same_events counts ∙ sym (append-nil old.events))
