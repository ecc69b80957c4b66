-- What is seen of a host otherwise than it stands there.
use Rattle.std.specs.BTreeMap.{get_by_text}
use Rattle.host_core.specs.Tree.{IsTree}
use Rattle.host_core.specs.World.{World}
use Rattle.host_overlay.specs.Standings.{AreThere, Changed, overlaid}
use Rattle.host_overlay.specs.declared.seen_names.SeenNames.{SeenNames}

-- what these names make of each world
abbrev pub seen_by : SeenNames → Changed
seen_by names = get_by_text names.changes.map

-- the world that is seen through them
abbrev pub seen : SeenNames → World → World
seen names w = overlaid (seen_by names) w

-- what they show stands there, and what is seen is a tree
pub record AreSources (names : SeenNames) (w : World) : Type 0 where
  pub there : AreThere (seen_by names) w
  pub tree : IsTree (seen names w)
