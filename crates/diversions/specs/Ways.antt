-- Where paths are, by the diversions and by the aliases that the root has: links to directories, which are followed. Two names of
-- one place are one for diversions too.
use Rattle.std.specs.Prelude.{◌||◌, ℕ, Bool, cond, List, [], ◌∷◌, Option, Some, None}
use Rattle.std.specs.Str.{bytes_eq}
use Rattle.host_core.specs.Paths.{Path}
use Rattle.aliases.specs.Aliases.{Alias, is_target, resolved}
use Rattle.diversions.specs.declared.entry.Diversion.{Diversion}
use Rattle.diversions.specs.Entries.{entry_of}
use Rattle.diversions.specs.Places.{target_of, target_for}

-- the entries in the order of adding, and the aliases
pub record Ways : Type 0 where
  pub entries : List Diversion
  pub aliases : List Alias

-- the first entry whose path has this place
abbrev pub entry_at : List Alias → List Diversion → Path → Option Diversion
entry_at aliases [] place = None
entry_at aliases (d ∷ entries) place = cond (bytes_eq (resolved aliases d.path) place) (Some d) (entry_at aliases entries place)

abbrev pub or_else : Option Diversion → Option Diversion → Option Diversion
or_else (Some d) other = Some d
or_else None other = other

-- the entry that diverts a path: that of its listed name, else the first whose path has the same place
abbrev pub diversion_of_place : Ways → Path → Option Diversion
diversion_of_place ways path = or_else (entry_of ways.entries path) (entry_at ways.aliases ways.entries (resolved ways.aliases path))

-- where a path of a package is
abbrev pub place : Ways → List ℕ → Path → Path
place ways name path = resolved ways.aliases (target_for (diversion_of_place ways path) name path)

-- where a path is for each package but the owner of its diversion
abbrev pub truename : Ways → Path → Path
truename ways path = resolved ways.aliases (target_of (diversion_of_place ways path) path)

-- the root, or a directory to which an alias leads: it stays, whichever lists have it
abbrev pub is_led_to : Ways → Path → Bool
is_led_to ways at = bytes_eq at [] || is_target ways.aliases at
