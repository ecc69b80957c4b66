-- Between which places a node is moved.
use Rattle.std.specs.Prelude.{List}
use Rattle.host_core.specs.Paths.{Path}
use Rattle.aliases.specs.Aliases.{Alias, resolved}
use Rattle.diversions.specs.declared.route.Route.{Route}

-- from the place of one name to that of another
abbrev pub route_of : List Alias → Path → Path → Route
route_of aliases from to = record { from = resolved aliases from; to = resolved aliases to }
