-- A whole run.
use Rattle.std.proofs.Common.{ℕ, Bool, List, [], ◌++◌, Option, None, refl, sym}
use Rattle.std.specs.Prelude.{IfSome}
use Rattle.std.proofs.lemmas.List.{append-nil}
use Rattle.dependency_check.specs.Waiting.{Waiting}
use Rattle.host_core.specs.Host.{State, Reads, Since}
use Rattle.host_core.proofs.Moments.{since_start, since_then, since_weaker, since_weaker_if}
use Rattle.unit_reports.specs.Held.{Held}
use Rattle.unit_reports.specs.declared.report.Unit.{Unit as AUnit}
use Rattle.unit_runs.proofs.Going.{still_here}
use Rattle.unit_runs.specs.Turns.{IsStill}
use Rattle.configure_run.specs.declared.options.ConfigureOptions.{ConfigureOptions}
use Rattle.configure_run.specs.Run.{Begins, HasRun, IsAmidRun, IsConfigureRun}
use Rattle.configure_run.specs.Turns.{EndTurns, IsAmidTurns, IsBrokenStill, StopTurns}
use Rattle.configure_run.proofs.LeftLaws.{left_some}
use Rattle.configure_run.proofs.Moments.{since_still}

pub reads_here : (s : State) → Reads s s
reads_here s = record { honest = λ h. h; world = refl; added = []; failed = tt; events = sym (append-nil s.events) }

-- all turns were taken; one that was broken off behind them had not begun
pub stop_of_end : (options : ConfigureOptions) (silent : ℕ → Bool) (start : Waiting) (before : Held) (s t : State) (first now : List AUnit) (after : Held) (last : Option AUnit) → EndTurns options silent start before s first now after t → IfSome last (IsBrokenStill t t)
    → StopTurns options silent start before s first now last t
stop_of_end options silent start before s t first now after last ends still = StopTurns.leaving ends.q after ends.front ends.turned ends.ended (left_some ends.q ends.front now ends.left_over) still

module _ (names : List (List ℕ)) (options : ConfigureOptions) (before : Held) where
  pub since_run_start : (s : State) → Since (IsAmidRun names options before s) s s
  since_run_start s = since_start (IsAmidRun names options before s) s (IsAmidRun.beginning (still_here s.world))

  pub since_run_reads : (s t : State) → Reads s t → Since (IsAmidRun names options before s) s t
  since_run_reads s t reads = since_weaker (IsStill s.world) (IsAmidRun names options before s) s t (λ x w still. IsAmidRun.beginning still) (since_still s t reads)

  pub since_run : (silent : ℕ → Bool) (start : Waiting) (s m t : State) → Begins names before silent start s m → Since (IsAmidTurns options silent start before m) m t → Since (IsAmidRun names options before s) s t
  since_run silent start s m t begins turns =
      let first = since_run_reads s m begins.looks in
      since_then (IsAmidRun names options before s) s m t first
      (since_weaker_if (IsAmidTurns options silent start before m) (λ x. IsAmidRun names options before s (first.added ++ x)) m t
      (λ h x w amid. IsAmidRun.turning silent start m first.added x (turns.honest h) begins first.events refl amid) turns)

  -- what was carried out to the end has come so far
  pub run_of_whole : (us : List AUnit) (after : Held) (s t : State) → IsConfigureRun names options us before after s t → HasRun names options us None before s t
  run_of_whole us after s t run = HasRun.turning run.first run.refused run.silent run.start run.looked run.begins (stop_of_end options run.silent run.start before run.looked t run.first us after None run.turns tt)
