-- Which diversion goes to a path, and by whom.
use Rattle.std.specs.Prelude.{ℕ, cond, List, [], ◌∷◌, Option, Some, None}
use Rattle.std.specs.Str.{bytes_eq}
use Rattle.host_core.specs.Paths.{Path}
use Rattle.aliases.specs.Aliases.{Alias, resolved}
use Rattle.diversions.specs.declared.entry.Owner.{Owner}
use Rattle.diversions.specs.declared.entry.Owner.TheVariants.{Local, Package}
use Rattle.diversions.specs.declared.entry.Diversion.{Diversion}
use Rattle.diversions.specs.Ways.{Ways}

-- the first entry whose target is this name
abbrev pub entry_named : List Diversion → Path → Option Diversion
entry_named [] path = None
entry_named (d ∷ entries) path = cond (bytes_eq path d.target) (Some d) (entry_named entries path)

-- the first entry whose target has this place
abbrev pub entry_aimed : List Alias → List Diversion → Path → Option Diversion
entry_aimed aliases [] place = None
entry_aimed aliases (d ∷ entries) place = cond (bytes_eq (resolved aliases d.target) place) (Some d) (entry_aimed aliases entries place)

-- the first entry whose target is the place of a path as it is listed
abbrev pub entry_to : Ways → Path → Option Diversion
entry_to ways path = entry_aimed ways.aliases ways.entries (resolved ways.aliases path)

-- the package whose diversion it is, or none for the administrator's
abbrev pub owner_name : Owner → Option (List ℕ)
owner_name Local = None
owner_name (Package name) = Some name
