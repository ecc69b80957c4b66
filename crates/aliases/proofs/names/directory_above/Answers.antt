use Rattle.std.proofs.Common.{ap, ◌∙◌}
use Rattle.host_core.specs.Paths.{is_path}
use Rattle.aliases.specs.Links.{above}
use Rattle.aliases.proofs.Above.{above_path}
use Rattle.aliases.proofs.names.directory_above.Goals as goal

pub from_str-requires : goal.from_str-requires
from_str-requires c = ap is_path (c.directory_of.ensures ∙ ap above c.as_str.ensures) ∙ above_path c.args.path.now c.law.ensures
