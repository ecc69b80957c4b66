use Rattle.conffiles.specs.Settling.{backed_up}
use Rattle.conffiles.proofs.Settlings.{reads_changing, reads_then_changing, file_some}
use Rattle.conffiles.proofs.settling.back_up.Goals as goal

pub returns-in_err-node-clause-any_moment : goal.returns-in_err-node-clause-any_moment
returns-in_err-node-clause-any_moment g c = reads_changing backed_up c.args.path.now _ _ c.file_at.ensures.looks.reads c.requires

pub returns-in-None-clause-any_moment : goal.returns-in-None-clause-any_moment
returns-in-None-clause-any_moment g c = reads_changing backed_up c.args.path.now _ _ c.file_at.ensures.looks.reads c.requires

pub returns-in-Some-clause-any_moment : goal.returns-in-Some-clause-any_moment
returns-in-Some-clause-any_moment g c = reads_then_changing backed_up c.args.path.now _ _ _ c.file_at.ensures.looks.reads c.requires c.keep_copy.ensures.any_moment

pub keep_copy-requires-clause-file : goal.keep_copy-requires-clause-file
keep_copy-requires-clause-file g c = file_some _ _ c.in-Some.is c.in_ok-node.ensures.file
