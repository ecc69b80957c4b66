-- Where a link that a package ships would lead, followed by the aliases that are known.
use Rattle.std.specs.Prelude.{ℕ, Bool, cond, codes, List, [], ◌∷◌, ◌++◌}
use Rattle.std.specs.Str.{bytes_eq}
use Rattle.host_core.specs.Paths.{Path}
use Rattle.aliases.specs.Aliases.{Alias, led, way_to, followed}
use Rattle.aliases.specs.Links.{above, names_of, start_of, stays}

-- where a name leads from a directory
abbrev pub entered : List Alias → Path → Path → Path
entered aliases at name = cond (stays name) at (cond (bytes_eq name (codes "..")) (above at) (led aliases (at ++ 47 ∷ name)))

-- where names lead from a directory, one after another
abbrev pub walked : List Alias → Path → List Path → Path
walked aliases at [] = at
walked aliases at (name ∷ names) = walked aliases (entered aliases at name) names

-- where a link with this text leads that stands at a way
abbrev pub led_by : List Alias → Path → List ℕ → Path
led_by aliases way text = walked aliases (start_of (above way) text) (names_of text)

-- a link with this text leads at the path to where the alias leads that stands there
abbrev pub leads_alike : List Alias → Path → List ℕ → Bool
leads_alike aliases path text = bytes_eq (followed aliases path) (led_by aliases (way_to aliases path) text)
