use Rattle.aliases.proofs.Flatness.{aliases_flat}
use Rattle.aliases.proofs.laws.aliases_of_a_world_are_flat.Goals as goal

pub returns : goal.returns
returns c = aliases_flat
