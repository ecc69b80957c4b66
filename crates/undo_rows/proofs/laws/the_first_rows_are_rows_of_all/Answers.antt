use Rattle.std.proofs.Common.{◌++◌}
use Rattle.host_core.specs.Host.{calls}
use Rattle.undo_rows.specs.Transcripts.{IfHonest, Legal, MayRun, Unwound}
use Rattle.undo_rows.proofs.FirstRows.{cause_of_all, runs_as_all, unwinds_of_all}
use Rattle.undo_rows.proofs.Tellings.{begun_more, made_weaker}
use Rattle.undo_rows.proofs.laws.the_first_rows_are_rows_of_all.Goals as goal

pub returns-clause-unwound : goal.returns-clause-unwound
returns-clause-unwound g c = λ t rows after fall failed a b told now run.
    let fault = IfHonest b (g.A.Around.file_step_fault t) in
    made_weaker (Legal fault (calls a) (Unwound fall failed) rows) (Legal fault (calls a) (Unwound fall failed) (rows ++ after)) a b told now (λ ts is. unwinds_of_all rows after fault (calls a) ts fall failed is) run

pub returns-clause-begun : goal.returns-clause-begun
returns-clause-begun g c = λ rows after a b told now begun. begun_more (MayRun rows) (MayRun (rows ++ after)) a b told now (runs_as_all rows after) begun

pub returns-clause-cause : goal.returns-clause-cause
returns-clause-cause g c = λ rows after u is. cause_of_all rows after u.fall.row u.fall.fault u.failure is
