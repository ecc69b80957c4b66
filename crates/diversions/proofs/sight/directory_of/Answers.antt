use Rattle.std.proofs.Common.{ap, ◌∙◌}
use Rattle.host_core.specs.Paths.{is_path}
use Rattle.diversions.specs.Names.{front_of}
use Rattle.diversions.proofs.Fronts.{front_path}
use Rattle.diversions.proofs.sight.directory_of.Goals as goal

pub from_str-requires : goal.from_str-requires
from_str-requires c = ap is_path (c.front_of.ensures ∙ ap front_of c.as_str.ensures) ∙ front_path c.args.path.now c.law.ensures
