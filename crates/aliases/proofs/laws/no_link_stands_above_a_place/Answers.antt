use Rattle.aliases.proofs.Clearing.{no_link_above}
use Rattle.aliases.proofs.laws.no_link_stands_above_a_place.Goals as goal

pub returns : goal.returns
returns c = no_link_above
