use Rattle.std.proofs.Common.{◌∙◌}
use Rattle.dpkg_session.proofs.session.closed_report.Goals as goal

pub returns : goal.returns
returns c = record { units = c.new.ensures.items; last = (c.broken.ensures.told ∙ c.new-2.ensures.items, c.broken.ensures.touched, c.broken.ensures.reply) }
