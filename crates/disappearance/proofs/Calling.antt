-- The calls are those of the host's own list.
use Rattle.std.proofs.Common.{◌≡◌, ℕ, List, [], ◌∷◌, Option, None, sym, ap, ◌∙◌}
use Rattle.undo_rows.proofs.Tellings.{begun_calls, made_calls}
use Rattle.host_core.specs.Events.{calls_of}
use Rattle.host_core.specs.Host.{State, Silent, calls}
use Rattle.host_core.proofs.Scripts.{calls_of-scripts}
use Rattle.host_core.specs.declared.call.Call.{Call}
use Rattle.diversions.specs.Ways.{Ways}
use Rattle.unit_stages.proofs.RunLaws.{run_made}
use Rattle.unit_stages.specs.Calls.{AreCallsOf, MayRunStages}
use Rattle.unit_stages.specs.Holding.{Holding}
use Rattle.unit_stages.specs.Runs.{HaveRun}
use Rattle.unit_stages.specs.declared.stage.Stage.{Stage}
use Rattle.undo_rows.proofs.Makes.{tells_none, tells_then}
use Rattle.undo_rows.specs.Transcript.{TellsAll}
use Rattle.undo_rows.specs.declared.rows.Called.{Called}
use Rattle.disappearance.specs.Runs.{HasCalledNext, HaveCalled, HaveDisappeared}
use Rattle.disappearance.specs.Units.{HasCalledOne, IsDecided}
use Rattle.disappearance.specs.declared.losing.Losing.{Losing}

silent_calls : (s t : State) → Silent s t → calls t ≡ calls s
silent_calls s t silent = sym (calls_of-scripts t.events) ∙ ap calls_of silent.scripts ∙ calls_of-scripts s.events

run_tells : (name : List ℕ) (ways : Ways) (stages : List Stage) (failed : Option Call) (before after : Holding) (s t : State) (told now : List Called) → HaveRun name ways stages failed before after s t told now → TellsAll s t told now
run_tells name ways stages failed before after s t told now run =
    let made = made_calls (AreCallsOf stages failed) s t told now (run_made name ways stages failed before after s t told now run) in
    (made.0, made.1, made.2.1)

module _ (incoming version : List ℕ) (ways : Ways) where
  decided_tells : (l : Losing) (names : List (List ℕ)) (failed : Option Call) (before after : Holding) (s t : State) (told now : List Called) → IsDecided incoming version ways l names failed before after s t told now → TellsAll s t told now
  decided_tells l names failed before after s t told now (IsDecided.stayed none unfailed stayed) = tells_none s t told now (silent_calls s t stayed.silent) stayed.untold
  decided_tells l names failed before after s t told now (IsDecided.disappeared is has) =
      tells_then s has.run.mid t told now now (run_tells l.name ways has.call failed before before s has.run.mid told now has.run.called)
      (run_tells l.name ways has.gone None before after has.run.mid t now now has.run.taken)

  pub all_tells : (losing : List Losing) (names : List (List ℕ)) (failed : Option Call) (before after : Holding) (s t : State) (told now : List Called) → HaveDisappeared incoming version ways losing names failed before after s t told now → TellsAll s t told now
  all_tells [] names failed before after s t told now run = tells_none s t told now (ap calls run.3) run.4
  all_tells (l ∷ ls) names failed before after s t told now run =
      tells_then s run.m t told run.between now (decided_tells l run.own run.first before run.mid s run.m told run.between run.decided)
      (all_tells ls run.more run.next run.mid after run.m t run.between now run.further)

  next_tells : (left : List Losing) (h : Holding) (s t : State) (told now : List Called) → HasCalledNext incoming version ways left h s t told now → TellsAll s t told now
  next_tells [] h s t told now called = tells_none s t told now (silent_calls s t called.0) called.1
  next_tells (l ∷ ls) h s t told now (HasCalledOne.uncalled silent same) = tells_none s t told now (silent_calls s t silent) same
  next_tells (l ∷ ls) h s t told now (HasCalledOne.called call gone goes plan begun) = let made = begun_calls (MayRunStages call) s t told now begun in (made.0, made.2, made.3.1)

  pub called_tells : (losing : List Losing) (before : Holding) (s t : State) (told now : List Called) → HaveCalled incoming version ways losing before s t told now → TellsAll s t told now
  called_tells losing before s t told now called =
      tells_then s called.m t told called.between now (all_tells called.done called.names called.failed before called.mid s called.m told called.between called.disappeared)
      (next_tells called.left called.mid called.m t called.between now called.called)
