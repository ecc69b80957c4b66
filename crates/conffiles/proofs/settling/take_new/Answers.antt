use Rattle.conffiles.specs.declared.decisions.Decision.TheVariants.{TakeNew}
use Rattle.conffiles.specs.Settling.{settled_files}
use Rattle.conffiles.proofs.Settlings.{reads_changing, reads_then_changing, file_some}
use Rattle.conffiles.proofs.settling.take_new.Goals as goal

pub returns-in_err-node-clause-any_moment : goal.returns-in_err-node-clause-any_moment
returns-in_err-node-clause-any_moment g c = reads_changing (settled_files TakeNew) c.args.path.now _ _ c.file_at.ensures.looks.reads c.requires

pub returns-in-None-clause-any_moment : goal.returns-in-None-clause-any_moment
returns-in-None-clause-any_moment g c = reads_changing (settled_files TakeNew) c.args.path.now _ _ c.file_at.ensures.looks.reads c.requires

pub returns-in-Some-clause-any_moment : goal.returns-in-Some-clause-any_moment
returns-in-Some-clause-any_moment g c = reads_then_changing (settled_files TakeNew) c.args.path.now _ _ _ c.file_at.ensures.looks.reads c.requires c.install.ensures.any_moment

pub install-requires-clause-file : goal.install-requires-clause-file
install-requires-clause-file g c = file_some _ _ c.in-Some.is c.in_ok-node.ensures.file
