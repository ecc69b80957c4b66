use Rattle.host_core.proofs.Moments.{reads_then}
use Rattle.info_format.proofs.converting.check.Goals as goal

pub returns-in_err-short-clause-reads : goal.returns-in_err-short-clause-reads
returns-in_err-short-clause-reads g c = reads_then _ _ _ c.node.ensures.reads c.node-2.ensures.reads

pub returns-in_err-fit-clause-reads : goal.returns-in_err-fit-clause-reads
returns-in_err-fit-clause-reads g c = reads_then _ _ _ c.node.ensures.reads c.node-2.ensures.reads

pub returns-then-fit-clause-reads : goal.returns-then-fit-clause-reads
returns-then-fit-clause-reads g c = reads_then _ _ _ c.node.ensures.reads c.node-2.ensures.reads

pub returns-in_err-copy-clause-reads : goal.returns-in_err-copy-clause-reads
returns-in_err-copy-clause-reads g c = reads_then _ _ _ c.node.ensures.reads c.node-2.ensures.reads

pub returns-clause-reads : goal.returns-clause-reads
returns-clause-reads g c = reads_then _ _ _ c.node.ensures.reads c.node-2.ensures.reads
