-- Aliases that are read before a unit is decided, above the paths of its tree, or above those of a diversion.
use Rattle.std.specs.Prelude.{◌≡◌, false, IsTrue, List, ◌++◌}
use Rattle.aliases.specs.Aliases.{Alias}
use Rattle.aliases.specs.Reading.{AreAliasesIn}
use Rattle.diversions.specs.Diverted.{Diverted}
use Rattle.diversions.specs.Ways.{Ways}
use Rattle.host_core.specs.Paths.{Path}
use Rattle.host_core.specs.World.{World}
use Rattle.file_lists.specs.Followed.{AreWhole, GrowAlong}
use Rattle.unit_reports.specs.Held.{Held}

-- with more aliases, beside the same entries
abbrev pub with_more : Ways → List Alias → Ways
with_more ways added = record { entries = ways.entries; aliases = ways.aliases ++ added }

-- the same of what is held
abbrev pub grown : Held → List Alias → Held
grown h added = record { records = h.records; lists = h.lists; ways = with_more h.ways added }

-- What is missing of the aliases above these paths is added. Then each directory above a path is followed to where it leads, if those
-- that were there are still links of this world.
pub record AreAdded (w : World) (paths : List Path) (old added : List Alias) : Type 0 where
  pub along : GrowAlong w paths old (old ++ added)
  pub whole : AreAliasesIn w old → AreWhole w paths (old ++ added)

-- only the aliases may be others
abbrev pub KeepsEntries : Diverted → Diverted → Type 0
KeepsEntries old new = new ≡ record old { ways = record old.ways { aliases = new.ways.aliases } }

-- the table can be changed, if it could before
abbrev pub StaysWritable : Diverted → Diverted → Type 0
StaysWritable old new = old.closed ≡ false → new.closed ≡ false
