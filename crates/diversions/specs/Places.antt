-- Where a path of a package is, and where a path is for all others.
use Rattle.std.specs.Prelude.{ℕ, Bool, true, not, cond, List, Option, Some, None}
use Rattle.std.specs.Str.{bytes_eq}
use Rattle.host_core.specs.Paths.{Path}
use Rattle.diversions.specs.declared.entry.Owner.{Owner}
use Rattle.diversions.specs.declared.entry.Owner.TheVariants.{Local, Package}
use Rattle.diversions.specs.declared.entry.Diversion.{Diversion}
use Rattle.diversions.specs.Entries.{entry_of}

-- whether an owner's diversions hold for a package: those of the administrator for each, a package's for all others
abbrev pub holds_for : Owner → List ℕ → Bool
holds_for Local name = true
holds_for (Package owner) name = not (bytes_eq owner name)

-- the target of a diversion, or the path itself where there is none
abbrev pub target_of : Option Diversion → Path → Path
target_of None path = path
target_of (Some d) path = d.target

-- the target of a path's diversion, else the path
abbrev pub truename : List Diversion → Path → Path
truename entries path = target_of (entry_of entries path) path

-- the same of a diversion that holds for the package
abbrev pub target_for : Option Diversion → List ℕ → Path → Path
target_for None name path = path
target_for (Some d) name path = cond (holds_for d.owner name) d.target path

-- where a path of a package is
abbrev pub place : List Diversion → List ℕ → Path → Path
place entries name path = target_for (entry_of entries path) name path
