-- The two stages of a package that disappears: the call, and behind it all goes.
use Rattle.std.proofs.Common.{◌≡◌, ℕ, List, [], ◌∷◌, ◌++◌, map, Option, None, refl, sym, subst}
use Rattle.host_core.specs.Events.{Event}
use Rattle.host_core.specs.Host.{State, AtEachMomentOf, Silent, Since}
use Rattle.host_core.proofs.Moments.{since_then, since_weaker_if, since_weaker}
use Rattle.host_core.specs.World.{World}
use Rattle.host_core.specs.declared.call.Call.{Call}
use Rattle.undo_rows.proofs.Tellings.{begun_weaker, begun_whole, made_behind}
use Rattle.undo_rows.specs.Telling.{Begun}
use Rattle.diversions.specs.Ways.{Ways}
use Rattle.removal_engine.specs.Stages.{planned, stage_of}
use Rattle.unit_stages.proofs.RunLaws.{run_made}
use Rattle.unit_stages.specs.Calls.{AreCallsOf, MayRunStages}
use Rattle.unit_stages.specs.Fitting.{AreStagesFit}
use Rattle.unit_stages.specs.Holding.{Holding}
use Rattle.unit_stages.specs.Running.{AreRunning}
use Rattle.unit_stages.specs.Runs.{HaveRun}
use Rattle.unit_stages.specs.declared.stage.Stage.{Stage}
use Rattle.undo_rows.specs.declared.rows.Called.{Called}
use Rattle.undo_rows.specs.declared.rows.Row.{Row}
use Rattle.disappearance.specs.Units.{HaveRunBoth, IsAmidBoth, IsRunningBoth}
use Rattle.disappearance.proofs.Plans.{call_same}

module _ (name : List ℕ) (ways : Ways) (call gone : List Stage) (h : Holding) (s : State) where
  abbrev pub Both : List Event → World → Type 0
  Both so_far now = IsAmidBoth name ways call gone h s so_far now

  -- while the call is made
  pub calling_moments : (t : State) → AtEachMomentOf (AreRunning name ways call h) s t → Since Both s t
  calling_moments t moments = since_weaker (AreRunning name ways call h s.world) Both s t (λ so_far now is. record { running = IsRunningBoth.calling is; opens = (is.table, is.opens) }) moments

  module _ (row : Row) (calls : map planned call ≡ stage_of [] row ∷ []) (failed : Option Call) (after : Holding) (m : State) (told more : List Called)
      (called : HaveRun name ways call failed h after s m told more) where
    pub same : after ≡ h
    same = call_same name ways row call failed h after s m told more calls called

    called_same : HaveRun name ways call failed h h s m told more
    called_same = subst (λ (x : Holding). HaveRun name ways call failed h x s m told more) same called

    pub gone_fit : AreStagesFit name gone h.records h.lists → AreStagesFit name gone after.records after.lists
    gone_fit fit = subst (λ (x : Holding). AreStagesFit name gone x.records x.lists) (sym same) fit

    -- and behind it all goes
    pub behind_moments : (t : State) → AtEachMomentOf (AreRunning name ways call h) s m → AtEachMomentOf (AreRunning name ways gone after) m t → Since Both s t
    behind_moments t first second = by (calling_moments m first)
      where
        by : Since Both s m → Since Both s t
        by before = since_then Both s m t before
            (since_weaker_if (AreRunning name ways gone after m.world) (λ so_far. Both (before.added ++ so_far)) m t
            (λ honest so_far now is. record {
              running = IsRunningBoth.behind (record {
                failed = failed;
                mid = m;
                told = told;
                more = more;
                called = called_same;
                honest = second.honest honest;
                front = before.added;
                rest = so_far;
                split = refl;
                events = before.events;
                running = subst (λ (x : Holding). AreRunning name ways gone x m.world so_far now) same is;
              });
              opens = (is.table, is.opens);
            }) second)

    pub behind_told : (t : State) (now : List Called) → Silent m t → now ≡ more → Begun (MayRunStages call) s t told now
    behind_told t now silent untold =
        subst (λ (x : List Called). Begun (MayRunStages call) s t told x) (sym untold)
        (begun_weaker (AreCallsOf call failed) (MayRunStages call) s t told more (λ ts is. (failed, is))
        (begun_whole (AreCallsOf call failed) s t told more
        (made_behind (AreCallsOf call failed) s m t told more (run_made name ways call failed h after s m told more called) silent)))

    pub both_ran : (end : Holding) (t : State) (now : List Called) → HaveRun name ways gone None after end m t now now → now ≡ more → HaveRunBoth name ways call gone failed h end s t told now
    both_ran end t now run untold = record {
      mid = m;
      called = subst (λ (x : List Called). HaveRun name ways call failed h h s m told x) (sym untold) called_same;
      taken = subst (λ (x : Holding). HaveRun name ways gone None x end m t now now) same run;
    }
