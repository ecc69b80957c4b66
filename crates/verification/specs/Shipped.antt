-- How what stands at the place of a path that a tree ships differs from what the tree has there.
use Rattle.std.specs.Prelude.{◌&&◌, not, ℕ, Bool, true, false, List, [], ◌++◌, Option, Some, None, codes, map, if◌then◌else◌}
use Rattle.std.specs.Str.{bytes_eq}
use Rattle.host_core.specs.Nodes.{same_access}
use Rattle.host_core.specs.Paths.{Path}
use Rattle.host_core.specs.World.{World, is_file}
use Rattle.host_core.specs.declared.node.Access.{Access as AnAccess}
use Rattle.host_core.specs.declared.node.Node.{Node}
use Rattle.host_core.specs.declared.node.Node.TheVariants.{File, Dir, Link}
use Rattle.aliases.specs.Aliases.{Alias, is_alias, way_to}
use Rattle.diversions.specs.Ways.{place, Ways}
use Rattle.package_tree.specs.declared.shipped.Shipped.{Shipped}
use Rattle.verification.specs.Differences.{difference_lines}
use Rattle.verification.specs.Looks.{Look}
use Rattle.verification.specs.declared.difference.Difference.{Difference}
use Rattle.verification.specs.declared.difference.Difference.TheVariants.{Missing, Kind, Target, Bytes, Access, Unread}

-- a difference, unless it is the same
abbrev pub unless : Bool → Difference → Option Difference
unless same d = if same then None else Some d

-- of two files the bytes are compared first, then mode and owner
abbrev pub file_difference : List ℕ → AnAccess → List ℕ → AnAccess → Option Difference
file_difference bytes access others owned = if bytes_eq bytes others then unless (same_access access owned) Access else Some Bytes

-- what stands there, beside what was shipped; a link has neither mode nor owner
abbrev pub difference_between : Option Node → Node → Option Difference
difference_between None shipped = Some Missing
difference_between (Some (File bytes access)) (File others owned) = file_difference bytes access others owned
difference_between (Some (File bytes access)) (Dir owned) = Some Kind
difference_between (Some (File bytes access)) (Link aimed) = Some Kind
difference_between (Some (Dir access)) (File others owned) = Some Kind
difference_between (Some (Dir access)) (Dir owned) = unless (same_access access owned) Access
difference_between (Some (Dir access)) (Link aimed) = Some Kind
difference_between (Some (Link target)) (File others owned) = Some Kind
difference_between (Some (Link target)) (Dir owned) = Some Kind
difference_between (Some (Link target)) (Link aimed) = unless (bytes_eq target aimed) Target

-- a link to a directory stands for a directory or a link that is shipped
abbrev pub stands_for : List Alias → Path → Node → Bool
stands_for aliases path shipped = not (is_file shipped) && is_alias aliases (way_to aliases path)

-- what a look told: the difference, or that there is no knowing
abbrev pub compared_by : (failed : Bool) → Option Node → Node → Option Difference
compared_by true _ shipped = Some Unread
compared_by false node shipped = difference_between node shipped

-- the difference of a shipped path; none where a link to a directory stands for it
abbrev pub shipped_difference : Ways → List ℕ → World → Look Shipped → Option Difference
shipped_difference ways name w l = if stands_for ways.aliases l.at.path l.at.node then None else compared_by l.failed (w (place ways name l.at.path)) l.at.node

-- its line, if it has one
abbrev pub shipped_lines : Ways → List ℕ → World → Look Shipped → List ℕ
shipped_lines ways name w l = difference_lines l.at.path name (shipped_difference ways name w l)

-- the path above which links are followed: of a directory one in it, so that a link that stands for it is known
abbrev pub looked_path : Path → Node → Path
looked_path path (File bytes access) = path
looked_path path (Dir access) = path ++ codes "/x"
looked_path path (Link target) = path

abbrev pub looked_paths : List Shipped → List Path
looked_paths files = map (λ file. looked_path file.path file.node) files
