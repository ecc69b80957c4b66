-- Runs of steps, and of steps and an unwind, over the states of a host.
use Rattle.std.proofs.Common.{◌≡◌, List, [], ◌∷◌, ◌++◌, Option, Some, None, length, refl, sym, ap, subst}
use Rattle.host_core.specs.Events.{Ran}
use Rattle.host_core.specs.Host.{State, Falls, Silent, calls}
use Rattle.undo_rows.specs.declared.rows.Called.{Called}
use Rattle.undo_rows.specs.declared.rows.Row.{Row}
use Rattle.undo_rows.specs.declared.fall.StepFault.{StepFault}
use Rattle.undo_rows.specs.declared.fall.Fall.{Fall}
use Rattle.undo_rows.specs.Transcript.{Goes, Succeed}
use Rattle.undo_rows.specs.declared.failed.Failed.{Failed}
use Rattle.undo_rows.specs.Telling.{Begun, HasRun, HasStepped, HasSucceeded, HasUnwound, Made}
use Rattle.undo_rows.specs.Transcripts.{Anyhow, Ended, IfHonest, Legal, MayRun, MayStep, MayUnwind, Unwinds, Unwound}
use Rattle.undo_rows.specs.Undoing.{UndoesAll}
use Rattle.undo_rows.proofs.Growth.{goes_anyhow, goes_onto, legal_weaker, may_have_run, may_run_on, may_step_on, may_unwind_of, succeed_anyhow, succeed_push, succeed_weaker}
use Rattle.undo_rows.proofs.Tellings.{begun_more, begun_then, begun_weaker, begun_whole, made_behind, made_then, made_weaker}

module _ (fault : List Ran → Option StepFault → Type 0) where
  -- what was said until a state is said until a later one
  still : (a b : State) → Falls a b → (past : List Ran) (f : Option StepFault) → IfHonest a fault past f → IfHonest b fault past f
  still a b falls past f is = λ h. is (falls h)

  module _ (rows : List Row) (row : Row) (a b c : State) (told more now : List Called) (first : HasSucceeded fault rows a b told more) where
    pub has_stepped : HasStepped fault row None b c more now → HasSucceeded fault (rows ++ row ∷ []) a c told now
    has_stepped second =
        made_then (Succeed (IfHonest b fault) (calls a) rows) (Succeed (IfHonest c fault) (calls a) (rows ++ row ∷ [])) (λ past ts. Goes (IfHonest c fault) past row ts None) a b c told more now
        (λ x y p q. succeed_push (IfHonest c fault) (calls a) rows row x y (succeed_weaker (IfHonest b fault) (IfHonest c fault) (still b c second.honest) (calls a) rows x p) q) first second

    -- these rows and one that failed
    abbrev Fell : State → Fall → List Ran → Type 0
    Fell s fall ts = (x y : List Ran) × (ts ≡ x ++ y) × Succeed (IfHonest s fault) (calls a) rows x × Goes (IfHonest s fault) (calls a ++ x) row y (Some fall)

    has_fallen : (fall : Fall) → HasStepped fault row (Some fall) b c more now → Made (Fell c fall) a c told now
    has_fallen fall second =
        made_then (Succeed (IfHonest b fault) (calls a) rows) (Fell c fall) (λ past ts. Goes (IfHonest c fault) past row ts (Some fall)) a b c told more now
        (λ x y p q. (x, y, refl, succeed_weaker (IfHonest b fault) (IfHonest c fault) (still b c second.honest) (calls a) rows x p, q)) first second

    module _ (after : List Row) (fall : Fall) (d : State) (end : List Called) (second : HasStepped fault row (Some fall) b c more now) where
      pub has_unwound : (failed : List Failed) → fall.row ≡ length rows → HasUnwound (rows ++ row ∷ []) failed c d now end → HasRun fault (Unwound fall failed) (rows ++ row ∷ after) a d told end
      has_unwound failed at third =
          made_then (Fell c fall) (λ ts. Unwinds (IfHonest d fault) (calls a) (rows ++ row ∷ after) ts fall failed) (λ past ts. UndoesAll 0 (rows ++ row ∷ []) ts failed) a c d told now end
          (λ x y p q. record {
            before = rows;
            row = row;
            after = after;
            rows_are = refl;
            fell_at = at;
            forward = p.0;
            last = p.1;
            back = y;
            calls_are = ap (λ (l : List Ran). l ++ y) p.2;
            succeed = succeed_weaker (IfHonest c fault) (IfHonest d fault) (still c d third.honest) (calls a) rows p.0 p.3;
            fails = goes_onto (IfHonest c fault) (IfHonest d fault) (calls a ++ p.0) (calls a ++ p.0) (still c d third.honest (calls a ++ p.0)) row p.1 (Some fall) p.4;
            undoes = q;
          })
          (has_fallen fall second) third

      pub broken_unwind : Begun (MayUnwind (rows ++ row ∷ [])) c d now end → Begun (MayRun (rows ++ row ∷ after)) a d told end
      broken_unwind third =
          begun_then (Fell c fall) (MayUnwind (rows ++ row ∷ [])) (MayRun (rows ++ row ∷ after)) a c d told now end
          (λ x y p q. subst (λ (l : List Ran). MayRun (rows ++ row ∷ after) (l ++ y)) (sym p.2)
          (may_unwind_of rows after row p.0 p.1 y fall (succeed_anyhow (IfHonest c fault) (calls a) [] rows p.0 p.3) (goes_anyhow (IfHonest c fault) (calls a ++ p.0) [] row p.1 (Some fall) p.4) q))
          (has_fallen fall second) third

    pub broken_step : (after : List Row) → Begun (MayStep row) b c more now → Begun (MayRun (rows ++ row ∷ after)) a c told now
    broken_step after second =
        begun_more (λ ts. (x y : List Ran) × (ts ≡ x ++ y) × Succeed Anyhow [] rows x × MayStep row y) (MayRun (rows ++ row ∷ after)) a c told now
        (λ ts is. subst (λ (l : List Ran). (rest : List Ran) × MayRun (rows ++ row ∷ after) (l ++ rest)) (sym is.2) (may_step_on rows after row is.0 is.1 is.3 is.4))
        (begun_then (Succeed (IfHonest b fault) (calls a) rows) (MayStep row) (λ ts. (x y : List Ran) × (ts ≡ x ++ y) × Succeed Anyhow [] rows x × MayStep row y) a b c told more now
        (λ x y p q. (x, y, refl, succeed_anyhow (IfHonest b fault) (calls a) [] rows x p, q)) first second)

  module _ (rows : List Row) (a b c : State) (told now : List Called) (behind : Silent b c) where
    pub broken_beside : (after : List Row) → HasSucceeded fault rows a b told now → Begun (MayRun (rows ++ after)) a c told now
    broken_beside after first =
        begun_more (Succeed (IfHonest b fault) (calls a) rows) (MayRun (rows ++ after)) a c told now (λ ts is. may_run_on rows after ts (succeed_anyhow (IfHonest b fault) (calls a) [] rows ts is))
        (begun_whole (Succeed (IfHonest b fault) (calls a) rows) a c told now (made_behind (Succeed (IfHonest b fault) (calls a) rows) a b c told now first behind))

    pub run_beside : (ended : Ended) → HasRun fault ended rows a b told now → HasRun fault ended rows a c told now
    run_beside ended run = made_weaker (Legal (IfHonest b fault) (calls a) ended rows) (Legal (IfHonest c fault) (calls a) ended rows) a c told now
        (legal_weaker (IfHonest b fault) (IfHonest c fault) (still b c behind.honest) (calls a) ended rows) (made_behind (Legal (IfHonest b fault) (calls a) ended rows) a b c told now run behind)

    pub run_told : (ended : Ended) → HasRun fault ended rows a b told now → Begun (MayRun rows) a c told now
    run_told ended run = begun_weaker (Legal (IfHonest b fault) (calls a) ended rows) (MayRun rows) a c told now (may_have_run (IfHonest b fault) (calls a) ended rows)
        (begun_whole (Legal (IfHonest b fault) (calls a) ended rows) a c told now (made_behind (Legal (IfHonest b fault) (calls a) ended rows) a b c told now run behind))
