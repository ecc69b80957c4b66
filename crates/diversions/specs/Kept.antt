-- The places of entries, kept beside the table.
use Rattle.std.specs.Prelude.{◌≡◌, List, map, IfSome}
use Rattle.aliases.specs.Aliases.{Alias}
use Rattle.diversions.specs.declared.entry.Diversion.{Diversion}
use Rattle.diversions.specs.declared.known.Known.{Known}
use Rattle.diversions.specs.declared.route.Route.{Route}
use Rattle.diversions.specs.declared.ways.Ways.{Ways}
use Rattle.diversions.specs.Routes.{route_of}

-- from the place of each path to that of its target, in their order
abbrev pub routes_of : List Alias → List Diversion → List Route
routes_of aliases entries = map (λ d. route_of aliases d.path d.target) entries

-- what is known are the routes of these entries, by these aliases
abbrev pub IsKnown : Known → Ways → Type 0
IsKnown known ways = IfSome known.routes (λ routes. routes.items ≡ routes_of ways.aliases ways.entries)
