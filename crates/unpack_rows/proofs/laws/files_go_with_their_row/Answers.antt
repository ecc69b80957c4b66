use Rattle.unpack_rows.proofs.Staging.{marked, stage_before, stage_called, stage_failed, stage_put_back, stage_spared, stage_undone, stage_wrote}
use Rattle.unpack_rows.proofs.laws.files_go_with_their_row.Goals as goal

pub returns-clause-called : goal.returns-clause-called
returns-clause-called c = λ kinds i k ok within at none. stage_called kinds i k within at none ok

pub returns-clause-undone : goal.returns-clause-undone
returns-clause-undone c = λ kinds i k fall failed now within at none. stage_undone kinds i k within at none fall failed now

pub returns-clause-unwritten : goal.returns-clause-unwritten
returns-clause-unwritten c = λ start others i k within at is. stage_before start others i k within at is

pub returns-clause-wrote : goal.returns-clause-wrote
returns-clause-wrote c = λ kinds i k within at is. stage_wrote kinds i k within at is

pub returns-clause-failed : goal.returns-clause-failed
returns-clause-failed c = λ start others i k fault within at is. stage_failed start others i k within at is fault

pub returns-clause-put_back : goal.returns-clause-put_back
returns-clause-put_back c = λ start others i k fall failed less within at is. stage_put_back start others i k fall failed within at is less

pub returns-clause-spared : goal.returns-clause-spared
returns-clause-spared c = λ start others i k fall failed low within at is. stage_spared start others i k fall failed within at is low

pub returns-clause-marked : goal.returns-clause-marked
returns-clause-marked c = λ start incoming others table place wrote. marked start incoming others table place wrote
