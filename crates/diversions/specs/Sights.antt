-- What stands where a node is moved from, where it is moved to, and above that.
use Rattle.std.specs.Prelude.{◌&&◌, Bool, true, false, not, Option, Some, None}
use Rattle.std.specs.Str.{bytes_eq}
use Rattle.host_core.specs.Nodes.{same_access}
use Rattle.host_core.specs.Paths.{Path}
use Rattle.host_core.specs.World.{World, kind_of}
use Rattle.host_core.specs.declared.node.Node.{Node}
use Rattle.host_core.specs.declared.node.Node.TheVariants.{File, Dir, Link}
use Rattle.host_core.specs.declared.node.Kind.{Kind}
use Rattle.host_core.specs.declared.node.Kind.TheVariants as kind
use Rattle.diversions.specs.Names.{front_of}
use Rattle.diversions.specs.declared.sight.Sight.{Sight}

-- two files of the same bytes and access, or two links of the same target
abbrev pub same_loose : Node → Node → Bool
same_loose (File bytes access) (File others other) = bytes_eq bytes others && same_access access other
same_loose (File bytes access) (Dir other) = false
same_loose (File bytes access) (Link target) = false
same_loose (Dir access) node = false
same_loose (Link target) (File bytes access) = false
same_loose (Link target) (Dir access) = false
same_loose (Link target) (Link other) = bytes_eq target other

-- the same file or link stands at both
abbrev pub same_node : Option Node → Option Node → Bool
same_node None found = false
same_node (Some node) None = false
same_node (Some node) (Some other) = same_loose node other

-- with rename it is looked too whether the target has the node already
abbrev pub sight_of : Bool → World → Path → Path → Sight
sight_of rename w from to = record { from = kind_of (w from); to = kind_of (w to); above = kind_of (w (front_of to)); same = rename && same_node (w from) (w to) }

abbrev pub is_directory_kind : Option Kind → Bool
is_directory_kind None = false
is_directory_kind (Some kind.File) = false
is_directory_kind (Some kind.Directory) = true
is_directory_kind (Some kind.SymbolicLink) = false

-- a file or link is there
abbrev pub is_loose_kind : Option Kind → Bool
is_loose_kind None = false
is_loose_kind (Some kind.File) = true
is_loose_kind (Some kind.Directory) = false
is_loose_kind (Some kind.SymbolicLink) = true

-- with rename a file or link that is there is moved, unless its owner's list has the path
abbrev pub moves_node : Bool → Bool → Sight → Bool
moves_node rename listed sight = rename && (not listed && is_loose_kind sight.from)

-- the same from the place of a target back to that of its path, where they are two
abbrev pub moves_back : Bool → World → Path → Path → Bool
moves_back rename w target path = not (bytes_eq target path) && moves_node rename false (sight_of rename w target path)

-- with rename a file or link stands where one is to be moved: a command that was stopped may have put it there
abbrev pub brings_first : Bool → Bool → Sight → Bool
brings_first rename listed sight = rename && (not listed && is_loose_kind sight.to)
