-- The report of a whole command.
use Rattle.std.proofs.Common.{◌≡◌, inl, ℕ, List, [], ◌++◌, Option, Some, None, refl, sym, ap, subst, ◌∙◌}
use Rattle.std.proofs.lemmas.List.{append-nil}
use Rattle.host_core.specs.Host.{State, Since}
use Rattle.undo_rows.specs.Transcript.{TellsAll}
use Rattle.unit_reports.proofs.Telling.{told_all}
use Rattle.unit_reports.specs.Held.{Held}
use Rattle.unit_reports.specs.Units.{calls_of}
use Rattle.unit_reports.specs.Watching.{AddsTold, IsTold}
use Rattle.unit_reports.specs.declared.report.Unit.{Unit as AUnit}
use Rattle.unit_runs.proofs.Going.{since_turns_start}
use Rattle.unit_runs.specs.Turns.{TurnsTo}
use Rattle.trigger_run.specs.Run.{IsIdle, RunsUpTo}
use Rattle.trigger_run.specs.Turns.{HasStopped, HasTurned, IsAmidTurn, IsAmidTurns, IsBrokenNext, IsTurn, ProcessesTo}
use Rattle.trigger_run.proofs.Processings.{silent_here}
use Rattle.trigger_run.proofs.Replies.{broken_by}
use Rattle.trigger_run.proofs.Turning.{since_next_start}

idle_next : (left : List (List ℕ)) (h : Held) (s : State) (u : AUnit) → IsIdle u → IsBrokenNext left h s s u
idle_next left h s u idle = record { broken = broken_by _ u.reply idle.broken; untouched = idle.touched; called = inl (record { silent = silent_here s; told = idle.calls }) }

module _ (names : List (List ℕ)) (before : Held) (s : State) where
  -- the units that have come behind none
  pub runs_to : (first mid us : List AUnit) (left : List (List ℕ)) (after : Held) (t : State) → first ≡ [] → us ≡ mid → HasTurned names left before after s t first mid → ProcessesTo names before s us left after t
  runs_to first mid us left after t none same turned =
      subst (λ (l : List AUnit). TurnsTo IsTurn names before s l left after t) (sym (same ∙ turned.are ∙ ap (λ (l : List AUnit). l ++ turned.turned) none)) turned.come

  pub runs_up_to : (first mid : List AUnit) (after : Held) (t : State) → first ≡ [] → HasTurned names [] before after s t first mid → RunsUpTo names mid None before s t
  runs_up_to first mid after t none turned = record {
    left = [];
    after = after;
    end = t;
    turns = runs_to first mid mid [] after t none refl turned;
    since = since_next_start [] [] after t;
    broken = tt;
  }

  -- where one was broken off
  pub stopped_up_to : (first us : List AUnit) (t : State) (u : AUnit) → first ≡ [] → HasStopped names before s t first us u → RunsUpTo names us (Some u) before s t
  stopped_up_to first us t u none (later, stopped) = record {
    left = stopped.q;
    after = stopped.after;
    end = stopped.m;
    turns = runs_to first us us stopped.q stopped.after stopped.m none refl stopped.turned;
    since = stopped.since;
    broken = record { broken = stopped.broken.broken; untouched = stopped.broken.untouched; called = stopped.broken.called };
  }

  -- where memory was wanting before anything was done
  pub not_begun : (us : List AUnit) (u : AUnit) → us ≡ [] → IsIdle u → RunsUpTo names us (Some u) before s s
  not_begun us u none idle = record {
    left = names;
    after = before;
    end = s;
    turns = subst (λ (l : List AUnit). TurnsTo IsTurn names before s l names before s) (sym none) TurnsTo.begun;
    since = since_next_start names names before s;
    broken = idle_next names before s u idle;
  }

  pub since_none : Since (IsAmidTurns names before s) s s
  since_none = since_turns_start IsTurn names before s (λ left behind. IsAmidTurn left) (λ later. Unit {0}) tt

-- the calls that are told
pub tells_ended : (first mid : List AUnit) (s t : State) → first ≡ [] → TellsAll s t (calls_of first) (calls_of mid) → TellsAll s t [] (calls_of mid ++ [])
tells_ended first mid s t none told =
    subst (TellsAll s t []) (sym (append-nil (calls_of mid))) (subst (λ (l : List AUnit). TellsAll s t (calls_of l) (calls_of mid)) none told)

-- all of them were told
pub told_ended : {W : Type 0} (tells : W → AUnit → State → W → Type 0) (s : State) (old new : W) (first mid us : List AUnit) → first ≡ [] → us ≡ mid → AddsTold tells s first mid old new → IsTold tells s old us new
told_ended tells s old new first mid us none same adds =
    told_all tells s old new us (subst (λ (l : List AUnit). AddsTold tells s [] l old new) (sym same) (subst (λ (l : List AUnit). AddsTold tells s l mid old new) none adds))
