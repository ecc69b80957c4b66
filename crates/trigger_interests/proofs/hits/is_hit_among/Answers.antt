use Rattle.std.proofs.Common.{◌∙◌}
use Rattle.trigger_interests.proofs.Directories.{directories_aside}
use Rattle.trigger_interests.proofs.hits.is_hit_among.Goals as goal

pub returns : goal.returns
returns c = c.is_hit_by_any.ensures ∙ directories_aside c.args.paths.now c.args.name.now
