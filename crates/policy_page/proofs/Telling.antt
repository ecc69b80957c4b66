-- What runs tell.
use Rattle.std.proofs.Common.{List, [], ◌++◌, Option, Some}
use Rattle.host_core.specs.Events.{Ran}
use Rattle.host_core.specs.Host.{State, calls}
use Rattle.undo_rows.specs.declared.rows.Called.{Called}
use Rattle.undo_rows.specs.declared.rows.Row.{Row}
use Rattle.undo_rows.specs.declared.fall.StepFault.{StepFault}
use Rattle.undo_rows.specs.Telling.{HasRun}
use Rattle.undo_rows.specs.Transcripts.{Anyhow, Committed, Ended, IfHonest, Legal, Unwound}
use Rattle.undo_rows.proofs.Growth.{goes_anyhow, succeed_anyhow}
use Rattle.policy_page.specs.Lines.{HasTold, IsLine, Line}

-- what is legal is so whatever is said of the file row
legal_anyhow : (F : List Ran → Option StepFault → Type 0) (past : List Ran) (ended : Ended) (rows : List Row) (ts : List Ran) → Legal F past ended rows ts → Legal Anyhow [] ended rows ts
legal_anyhow F past Committed rows ts run = succeed_anyhow F past [] rows ts run
legal_anyhow F past (Unwound fall failed) rows ts u = record {
  before = u.before;
  row = u.row;
  after = u.after;
  rows_are = u.rows_are;
  fell_at = u.fell_at;
  forward = u.forward;
  last = u.last;
  back = u.back;
  calls_are = u.calls_are;
  succeed = succeed_anyhow F past [] u.before u.forward u.succeed;
  fails = goes_anyhow F (past ++ u.forward) u.forward u.row u.last (Some fall) u.fails;
  undoes = u.undoes;
}

-- where each legal transcript is a line, the calls of one are told
pub told : {L : Type 0} (page : L → Line) (rows : List Row) (ended : Ended) → ((ts : List Ran) → Legal Anyhow [] ended rows ts → (l : L) × IsLine (page l) ended ts)
    → (F : List Ran → Option StepFault → Type 0) (a b : State) (before now : List Called) → HasRun F ended rows a b before now → (l : L) × HasTold (page l) ended before now
told page rows ended each F a b before now run =
    let l = each run.ts (legal_anyhow (IfHonest b F) (calls a) ended rows run.ts run.has) in
    (l.0, (run.ts, l.1, run.tells))
