use Rattle.conffiles.specs.declared.decisions.Decision.TheVariants.{TakeNew}
use Rattle.conffiles.specs.Settling.{settled_files}
use Rattle.conffiles.proofs.Settlings.{reads_changing, reads_then_changing}
use Rattle.conffiles.proofs.settling.install.Goals as goal

pub returns-in_err-had-clause-any_moment : goal.returns-in_err-had-clause-any_moment
returns-in_err-had-clause-any_moment g c = reads_changing (settled_files TakeNew) c.args.path.now _ _ c.look_at_access.ensures.looks.reads c.requires.can

pub returns-in_err-node-in-Some-clause-any_moment : goal.returns-in_err-node-in-Some-clause-any_moment
returns-in_err-node-in-Some-clause-any_moment g c = reads_changing (settled_files TakeNew) c.args.path.now _ _ c.look_at_access.ensures.looks.reads c.requires.can

pub returns-in-Some-clause-any_moment : goal.returns-in-Some-clause-any_moment
returns-in-Some-clause-any_moment g c = reads_then_changing (settled_files TakeNew) c.args.path.now _ _ _ c.look_at_access.ensures.looks.reads c.requires.can c.renew.ensures.any_moment

pub returns-in-None-clause-any_moment : goal.returns-in-None-clause-any_moment
returns-in-None-clause-any_moment g c = reads_then_changing (settled_files TakeNew) c.args.path.now _ _ _ c.look_at_access.ensures.looks.reads c.requires.can c.take_home.ensures.any_moment
