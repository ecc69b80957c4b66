-- How the calls of stages are made and told, over the states of the host.
use Rattle.std.proofs.Common.{◌≡◌, Bool, false, List, [], ◌∷◌, ◌++◌, None, refl, sym, ap, subst, ◌∙◌, append_assoc}
use Rattle.host_core.specs.Paths.{Path}
use Rattle.host_core.specs.Events.{Ran, Event}
use Rattle.host_core.specs.Host.{State, Silent, finished}
use Rattle.undo_rows.specs.Transcript.{Begins, Makes, Tries, TriesRow, UndoesAny}
use Rattle.undo_rows.specs.declared.rows.Called.{Called}
use Rattle.undo_rows.specs.declared.rows.Row.{Row}
use Rattle.undo_rows.specs.Telling.{Begun, Made}
use Rattle.undo_rows.proofs.Tellings.{begun_between, begun_more, begun_none, begun_then, begun_weaker, begun_whole, made_between}
use Rattle.unit_stages.specs.Calls.{AreCallsOf, MayCallRow, MayRunStages}
use Rattle.unit_stages.specs.declared.stage.Stage.{Stage}
use Rattle.unit_stages.proofs.Callings.{calls_on, may_pass, may_run_on, one_may, tries_on, undoes_on}

pub nothing_done : (a : State) → Silent a a
nothing_done a = record { honest = λ h. h; scripts = refl }

pub begun_behind : (P : List Ran → Type 0) (a b c : State) (told now : List Called) → Silent a b → Begun P b c told now → Begun P a c told now
begun_behind P a b c told now silent begun = record {
  ts = begun.ts;
  more = begun.more;
  first_of = begun.first_of;
  honest = λ h. silent.honest (begun.honest h);
  cut = begun.cut;
  scripts = begun.scripts ∙ ap (λ (l : List Event). l ++ (finished begun.ts ++ begun.cut)) silent.scripts;
  cut_short = begun.cut_short;
  tells = begun.tells;
}

-- calls that were told to have failed
pub failed_calls : (kept : Path → Bool) (row : Row) (ok : Bool) (a b : State) (told now : List Called) → ok ≡ false → Makes kept (λ ts. Tries row ts ok) a b told now → Makes kept (λ ts. Tries row ts false) a b told now
failed_calls kept row ok a b told now is made = subst (λ t. Makes kept (λ ts. Tries row ts t) a b told now) is made

module _ (kept : Path → Bool) (row : Row) (a b : State) (told now : List Called) where
  -- the undo, and behind it a part without a call
  pub undo_told : (c : State) → Begins kept (UndoesAny row []) a b told now → Silent b c → Begun (UndoesAny row []) a c told now
  undo_told c begins silent = begun_between kept (UndoesAny row []) a a c told now b (nothing_done a) begins silent

  -- the call on the way forward
  pub try_told : Begins kept (TriesRow row) a b told now → Begun (MayCallRow row) a b told now
  try_told begins = begun_more (TriesRow row) (MayCallRow row) a b told now (tries_on row) (begun_between kept (TriesRow row) a a b told now b (nothing_done a) begins (nothing_done b))

  -- and the undo behind it
  pub fall_told : (c : State) (end : List Called) → Makes kept (λ ts. Tries row ts false) a b told now → Begun (UndoesAny row []) b c now end → Begun (MayCallRow row) a c told end
  fall_told c end tries undoes =
      begun_then (λ ts. Tries row ts false) (UndoesAny row []) (MayCallRow row) a b c told now end (λ x y p q. undoes_on row x y p q)
      (made_between (λ ts. Tries row ts false) kept a a b b told now (nothing_done a) tries (nothing_done b)) undoes

module _ (stage : Stage) (a b : State) (told : List Called) (silent : Silent a b) where
  -- the parts of a stage make no call
  pub parts_told : Begun (MayRunStages (stage ∷ [])) a b told told
  parts_told = let some = may_pass (stage ∷ []) in begun_none (MayRunStages (stage ∷ [])) a b told some.0 (None, some.1) silent

  pub stage_told : (c : State) (now : List Called) → Begun (MayCallRow stage.row) b c told now → Begun (MayRunStages (stage ∷ [])) a c told now
  stage_told c now begun = begun_weaker (MayCallRow stage.row) (MayRunStages (stage ∷ [])) a c told now (one_may stage) (begun_behind (MayCallRow stage.row) a b c told now silent begun)

-- a stage behind those that passed
pub run_told : (stages front back : List Stage) (stage : Stage) (a b c : State) (told more now : List Called) → stages ≡ front ++ stage ∷ back
    → Made (AreCallsOf front None) a b told more → Begun (MayRunStages (stage ∷ [])) b c more now → Begun (MayRunStages stages) a c told now
run_told stages front back stage a b c told more now are first second =
    subst (λ (l : List Stage). Begun (MayRunStages l) a c told now) (append_assoc front (stage ∷ []) back ∙ sym are)
    (begun_more (MayRunStages (front ++ stage ∷ [])) (MayRunStages ((front ++ stage ∷ []) ++ back)) a c told now (may_run_on (front ++ stage ∷ []) back)
    (begun_then (AreCallsOf front None) (MayRunStages (stage ∷ [])) (MayRunStages (front ++ stage ∷ [])) a b c told more now
    (λ x y p q. (q.0, calls_on front (stage ∷ []) q.0 x y p q.1)) first second))

-- behind those that passed nothing is called yet
pub passed_told : (stages front back : List Stage) (a b : State) (told now : List Called) → stages ≡ front ++ back → Made (AreCallsOf front None) a b told now → Begun (MayRunStages stages) a b told now
passed_told stages front back a b told now are made =
    subst (λ (l : List Stage). Begun (MayRunStages l) a b told now) (sym are)
    (begun_more (AreCallsOf front None) (MayRunStages (front ++ back)) a b told now (λ ts is. may_run_on front back ts (None, is)) (begun_whole (AreCallsOf front None) a b told now made))
