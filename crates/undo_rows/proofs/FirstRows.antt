-- The first rows of some: what they were unwound by, or broken off with, is that of all.
use Rattle.std.proofs.Common.{◌≡◌, ℕ, zero, suc, List, [], ◌∷◌, ◌++◌, Option, Some, None, sym, ap, subst, ◌∙◌, append_assoc}
use Rattle.std.proofs.lemmas.List.{append-nil}
use Rattle.host_core.specs.Events.{Ran}
use Rattle.undo_rows.specs.declared.rows.Row.{Row}
use Rattle.undo_rows.specs.declared.fall.StepFault.{StepFault}
use Rattle.undo_rows.specs.declared.fall.Fall.{Fall}
use Rattle.undo_rows.specs.declared.failed.Failed.{Failed}
use Rattle.undo_rows.specs.declared.failure.Failure.{Failure}
use Rattle.undo_rows.specs.Ended.{failure_of}
use Rattle.undo_rows.specs.Transcripts.{Anyhow, Committed, Ended, Legal, MayRun, Unwinds, Unwound}
use Rattle.undo_rows.proofs.Growth.{may_run_on}

module _ (rows after : List Row) where
  pub unwinds_of_all : (F : List Ran → Option StepFault → Type 0) (past ts : List Ran) (fall : Fall) (failed : List Failed) → Unwinds F past rows ts fall failed → Unwinds F past (rows ++ after) ts fall failed
  unwinds_of_all F past ts fall failed is = record {
    before = is.before;
    row = is.row;
    after = is.after ++ after;
    rows_are = ap (λ (l : List Row). l ++ after) is.rows_are ∙ append_assoc is.before (is.row ∷ is.after) after;
    fell_at = is.fell_at;
    forward = is.forward;
    last = is.last;
    back = is.back;
    calls_are = is.calls_are;
    succeed = is.succeed;
    fails = is.fails;
    undoes = is.undoes;
  }

  runs_on : (ts : List Ran) (ended : Ended) → Legal Anyhow [] ended rows ts → (more : List Ran) × MayRun (rows ++ after) (ts ++ more)
  runs_on ts Committed all = may_run_on rows after ts all
  runs_on ts (Unwound fall failed) is = ([], subst (MayRun (rows ++ after)) (sym (append-nil ts)) (Unwound fall failed, unwinds_of_all Anyhow [] ts fall failed is))

  -- what may be called for the first of the rows can go on to be what may be called for all
  pub runs_as_all : (ts : List Ran) → MayRun rows ts → (more : List Ran) × MayRun (rows ++ after) (ts ++ more)
  runs_as_all ts run = runs_on ts run.0 run.1

-- for what one of the first rows failed
pub cause_of_all : (rows after : List Row) (index : ℕ) (fault : Option StepFault) (failure : Failure) → failure_of rows index fault ≡ Some failure → failure_of (rows ++ after) index fault ≡ Some failure
cause_of_all rows after index (Some fault) failure is = is
cause_of_all [] after index None failure is = cc
cause_of_all (row ∷ rows) after zero None failure is = is
cause_of_all (row ∷ rows) after (suc index) None failure is = cause_of_all rows after index None failure is
