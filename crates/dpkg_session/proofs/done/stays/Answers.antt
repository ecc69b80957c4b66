use Rattle.std.proofs.Common.{sym, ◌∙◌}
use Rattle.dpkg_session.proofs.DoneNames.{ends, stays_behind}
use Rattle.dpkg_session.proofs.done.stays.Goals as goal

pub returns : goal.returns
returns c = sym (stays_behind c.loop-at.at c.args.labels.now c.args.units.now c.args.name.now (ends _ _ _ c.loop-at.at c.labelled-at-end.ensures.whole c.loop-at-test.false)) ∙ c.loop-at.invariant
