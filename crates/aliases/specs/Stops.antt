-- How far names led, as the program tells it.
use Rattle.aliases.specs.Links.{Way, Leads, Meets, Ends, names_of}
use Rattle.aliases.specs.declared.links.Stop.{Stop}
use Rattle.aliases.specs.declared.links.Stop.TheVariants as stop

-- the way that was gone
abbrev pub way_of : Stop → Way
way_of (stop.Leads at) = Leads at
way_of (stop.Meets at names) = Meets at (names_of names)
way_of stop.Ends = Ends
