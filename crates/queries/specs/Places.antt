-- What is told of the diversions, and of where a path is.
use Rattle.std.specs.Prelude.{ℕ, List, ◌++◌, Option, Some, None, codes}
use Rattle.std.specs.List.{flat_map}
use Rattle.host_core.specs.Paths.{Path}
use Rattle.diversions.specs.Ways.{place, truename, Ways}
use Rattle.diversions.specs.declared.entry.Owner.{Owner}
use Rattle.diversions.specs.declared.entry.Owner.TheVariants.{Local, Package}
use Rattle.diversions.specs.declared.entry.Diversion.{Diversion}
use Rattle.shown_lines.specs.Lines.{line}
use Rattle.queries.specs.Paths.{path_line}

-- where a path is: for the files of a package, or for all packages but the owner of its diversion
abbrev pub place_for : Ways → Option (List ℕ) → Path → Path
place_for ways None path = truename ways path
place_for ways (Some name) path = place ways name path

-- the line of where a path is
abbrev pub truename_text : Ways → Option (List ℕ) → Path → List ℕ
truename_text ways asked path = path_line (place_for ways asked path)

-- whose diversion it is: `local`, or the package's name
abbrev pub owner_text : Owner → List ℕ
owner_text Local = codes "local"
owner_text (Package name) = name

-- `local` or the package, the path and its target
abbrev pub diversion_line : Diversion → List ℕ
diversion_line d = line (owner_text d.owner ++ (codes " " ++ (d.path ++ (codes " " ++ d.target))))

-- each diversion's line, in the order of adding
abbrev pub diversions_text : List Diversion → List ℕ
diversions_text entries = flat_map diversion_line entries
