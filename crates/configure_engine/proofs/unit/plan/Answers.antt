use Rattle.host_core.proofs.Moments.{reads_then}
use Rattle.configure_engine.proofs.unit.plan.Goals as goal

pub returns-in_err-stages_of-in-Ok-clause-reads : goal.returns-in_err-stages_of-in-Ok-clause-reads
returns-in_err-stages_of-in-Ok-clause-reads g c = reads_then _ _ _ c.has_postinst.ensures.looks.reads c.decisions.ensures.looks.reads

pub returns-in_ok-stages_of-in-Ok-clause-reads : goal.returns-in_ok-stages_of-in-Ok-clause-reads
returns-in_ok-stages_of-in-Ok-clause-reads g c = reads_then _ _ _ c.has_postinst.ensures.looks.reads c.decisions.ensures.looks.reads

pub returns-in-Err-clause-reads : goal.returns-in-Err-clause-reads
returns-in-Err-clause-reads g c = reads_then _ _ _ c.has_postinst.ensures.looks.reads c.decisions.ensures.looks.reads
