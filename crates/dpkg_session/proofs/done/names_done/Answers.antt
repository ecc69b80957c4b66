use Rattle.dpkg_session.proofs.DoneNames.{done_all, ends}
use Rattle.dpkg_session.proofs.done.names_done.Goals as goal

pub returns : goal.returns
returns c = done_all c.args.labels.now c.args.units.now c.loop-at.at c.loop-at.names.items (ends _ _ _ c.loop-at.at c.labelled-at-end.ensures.whole c.loop-at-test.false) c.loop-at.invariant
