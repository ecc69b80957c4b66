use Rattle.info_format.proofs.Formats.{since_left}
use Rattle.info_format.proofs.bringing.leave_format.Goals as goal

pub returns-clause-any_moment : goal.returns-clause-any_moment
returns-clause-any_moment g c = since_left c.remove.result c.args.format.now _ _ c.remove.ensures.does
