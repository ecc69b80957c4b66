-- Where it stands who is interested in which trigger, in dpkg's places.
use Rattle.std.specs.Prelude.{◌&&◌, ◌||◌, not, ℕ, Bool, nat_eq, List, ◌∷◌, ◌++◌, codes}
use Rattle.std.specs.List.{ends_with}
use Rattle.std.specs.Str.{bytes_eq}
use Rattle.texts.specs.PackageNames.{is_package_name}
use Rattle.host_core.specs.Paths.{Path}
use Rattle.trigger_journal.specs.Places.{triggers_directory}

-- the file of the triggers that are paths
abbrev pub paths_name : List ℕ
paths_name = codes "File"

-- a name under which another file is written aside, by us or by dpkg
abbrev pub is_aside : List ℕ → Bool
is_aside name = ends_with nat_eq name (codes ".dpkg-inst") || ends_with nat_eq name (codes ".new")

-- A name of a file of interests: that of the paths, or of a trigger, which dpkg lets be named as a package may be.
abbrev pub is_register : List ℕ → Bool
is_register name = (bytes_eq name paths_name || is_package_name name) && not (is_aside name)

abbrev pub place : List ℕ → Path
place name = triggers_directory ++ 47 ∷ name
