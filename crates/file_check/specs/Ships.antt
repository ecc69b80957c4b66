-- The works of what a package ships.
use Rattle.std.specs.Prelude.{◌≡◌, ◌&&◌, not, ℕ, Bool, false, List, [], ◌∷◌, Option, Some, filter, map}
use Rattle.std.specs.List.{list_any}
use Rattle.std.specs.Str.{bytes_eq}
use Rattle.host_core.specs.Paths.{Path}
use Rattle.host_core.specs.World.{is_directory, is_file}
use Rattle.host_core.specs.declared.node.Node.{Node}
use Rattle.host_core.specs.declared.node.Node.TheVariants.{File, Dir, Link}
use Rattle.aliases.specs.Aliases.{Alias, is_alias, resolved, way_to}
use Rattle.aliases.specs.Reading.{is_link}
use Rattle.aliases.specs.Shipped.{leads_alike}
use Rattle.diversions.specs.Ways.{Ways, place}
use Rattle.package_files.specs.declared.work.Work.{Work}
use Rattle.package_files.specs.Works.{work_of}

abbrev pub is_conffile : List Path → Path → Bool
is_conffile conffiles path = list_any (bytes_eq path) conffiles

-- a shipped path at the place where the package has it (Policy 10.7 for a conffile)
abbrev pub work_at : Ways → List ℕ → List Path → (Path × Node) → Work
work_at ways name conffiles s = work_of s.0 (place ways name s.0) s.1 (is_conffile conffiles s.0)

-- both are directories, of one place: so are two names of it where one is behind a link (`/lib/systemd`, `/usr/lib/systemd`)
abbrev pub are_one_directory : Work → Work → Bool
are_one_directory x y = is_directory (Some x.node) && (is_directory (Some y.node) && bytes_eq y.place x.place)

-- without a directory whose place an earlier directory has
abbrev pub directories_once : List Work → List Work
directories_once [] = []
directories_once (s ∷ ss) = s ∷ filter (λ x. not (are_one_directory s x)) (directories_once ss)

-- a link where an alias stands: at its place is the directory behind that
abbrev pub is_at_alias : Ways → Work → Bool
is_at_alias ways s = is_link (Some s.node) && (is_alias ways.aliases (way_to ways.aliases s.path) && bytes_eq (resolved ways.aliases s.path) s.place)

-- a shipped link leads to where the alias at its path leads
abbrev pub is_alike : List Alias → Path → Node → Bool
is_alike aliases path (File bytes access) = false
is_alike aliases path (Dir access) = false
is_alike aliases path (Link text) = leads_alike aliases path text

-- such a link is there already
abbrev pub is_there : Ways → Work → Bool
is_there ways s = is_at_alias ways s && is_alike ways.aliases s.path s.node

-- another one would lead elsewhere
abbrev pub is_astray : Ways → Work → Bool
is_astray ways s = is_at_alias ways s && not (is_alike ways.aliases s.path s.node)

-- each shipped path, but no link that is there, and a directory once
abbrev pub shipped_works : Ways → List ℕ → List Path → List (Path × Node) → List Work
shipped_works ways name conffiles shipped = directories_once (filter (λ s. not (is_there ways s)) (map (work_at ways name conffiles) shipped))

-- what isn't a file is no conffile
abbrev pub FitsConffiles : List Path → List (Path × Node) → Type 0
FitsConffiles conffiles [] = Unit {0}
FitsConffiles conffiles (s ∷ ss) = (is_file s.1 ≡ false → is_conffile conffiles s.0 ≡ false) × FitsConffiles conffiles ss
