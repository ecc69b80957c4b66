use Rattle.scattered_losses.proofs.GoingApart.{faults_so, passed_on}
use Rattle.status_db.specs.Held.{is_record_place}
use Rattle.unpack_engine.proofs.finishing.finish_unwound.Goals as goal

pub returns-in_err-end_unwound-clause-apart : goal.returns-in_err-end_unwound-clause-apart
returns-in_err-end_unwound-clause-apart g c = faults_so is_record_place c.from_residual.result (g.H.Host.state c.args.host.now) (g.H.Host.state c.end_unwound.new.host) (λ h. (c.end_unwound.ensures.apart h).0) (passed_on _ _ c.from_residual.result c.from_residual.ensures.1)

pub returns-in_err-touched_of-clause-apart : goal.returns-in_err-touched_of-clause-apart
returns-in_err-touched_of-clause-apart g c = faults_so is_record_place c.from_residual-in_err-touched_of.result (g.H.Host.state c.args.host.now) (g.H.Host.state c.end_unwound.new.host) (λ h. (c.end_unwound.ensures.apart h).0) (passed_on _ _ c.from_residual-in_err-touched_of.result c.from_residual-in_err-touched_of.ensures.1)

pub returns-clause-apart : goal.returns-clause-apart
returns-clause-apart g c = c.in_ok-end_unwound.ensures.apart
