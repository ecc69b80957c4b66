-- Runs in which a row failed.
use Rattle.std.proofs.Common.{◌≡◌, List, [], ◌∷◌, ◌++◌, Option, Some, None, IsSome, length, sym, subst}
use Rattle.host_core.specs.Events.{Ran}
use Rattle.host_core.specs.Host.{State, calls}
use Rattle.undo_rows.specs.declared.rows.Called.{Called}
use Rattle.undo_rows.specs.declared.rows.Row.{Row}
use Rattle.undo_rows.specs.declared.fall.StepFault.{StepFault}
use Rattle.undo_rows.specs.declared.fall.Fall.{Fall}
use Rattle.undo_rows.specs.declared.failed.Failed.{Failed}
use Rattle.undo_rows.specs.Telling.{Begun, HasRun, HasStepped, HasSucceeded, HasUnwound}
use Rattle.undo_rows.specs.Transcripts.{IfHonest, MayRun, MayUnwind, Unwound}
use Rattle.undo_rows.specs.declared.stopped.Stopped.{Stopped}
use Rattle.undo_rows.specs.declared.unwinding.Unwinding.{Unwinding}
use Rattle.undo_rows.specs.Stepping.{HasFallen}
use Rattle.undo_rows.proofs.Listed.{has_forward}

module _ (fault : List Ran → Option StepFault → Type 0) (there rows stack : List Row) (stopped : Stopped) (a b c : State) (told more now : List Called) (fell : HasFallen fault stopped there rows stack a b told more) where
  -- where no step fault is told, the failed row has a forward call
  pub is_called : stopped.fall.fault ≡ None → IsSome stopped.forward
  is_called none = subst IsSome (sym fell.forward_is) (has_forward (IfHonest b fault) (calls fell.between) fell.row stopped.fall fell.failed.ts fell.failed.has none)

  pub has_run : ((rows after : List Row) (row : Row) (fall : Fall) (failed : List Failed) (a b c d : State) (told more last now : List Called) → fall.row ≡ length rows → HasSucceeded fault rows a b told more → HasStepped fault row (Some fall) b c more last → HasUnwound (rows ++ row ∷ []) failed c d last now → HasRun fault (Unwound fall failed) (rows ++ row ∷ after) a d told now)
      → (u : Unwinding) → u.fall ≡ stopped.fall → HasUnwound stack u.failed.items b c more now
      → (start : State) (first : List Called) → HasSucceeded fault there start a first told → HasRun fault (Unwound u.fall u.failed.items) (there ++ rows) start c first now
  has_run law u same unwound start first since =
      subst (λ (f : Fall). HasRun fault (Unwound f u.failed.items) (there ++ rows) start c first now) (sym same)
      (subst (λ (l : List Row). HasRun fault (Unwound stopped.fall u.failed.items) l start c first now) (sym fell.rows_are)
      (law fell.before fell.after fell.row stopped.fall u.failed.items start fell.between b c first fell.so_far more now fell.fell_at (fell.succeeded start first since) fell.failed (subst (λ (l : List Row). HasUnwound l u.failed.items b c more now) fell.stack_is unwound)))

  pub has_begun : ((rows after : List Row) (row : Row) (fall : Fall) (a b c d : State) (told more last now : List Called) → HasSucceeded fault rows a b told more → HasStepped fault row (Some fall) b c more last → Begun (MayUnwind (rows ++ row ∷ [])) c d last now → Begun (MayRun (rows ++ row ∷ after)) a d told now)
      → Begun (MayUnwind stack) b c more now
      → (start : State) (first : List Called) → HasSucceeded fault there start a first told → Begun (MayRun (there ++ rows)) start c first now
  has_begun law begun start first since =
      subst (λ (l : List Row). Begun (MayRun l) start c first now) (sym fell.rows_are)
      (law fell.before fell.after fell.row stopped.fall start fell.between b c first fell.so_far more now (fell.succeeded start first since) fell.failed (subst (λ (l : List Row). Begun (MayUnwind l) b c more now) fell.stack_is begun))
