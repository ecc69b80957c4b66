-- The ways as the program holds them.
use Rattle.diversions.specs.Ways.{Ways}
use Rattle.diversions.specs.declared.ways.Ways as held

-- what callers see of them
abbrev pub ways_of : held.Ways → Ways
ways_of ways = record { entries = ways.entries; aliases = ways.aliases }
