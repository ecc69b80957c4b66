-- Tests for what stands at the two names of a control file.
use Rattle.std.specs.Prelude.{◌&&◌, Bool, true, false, Option, Some, None}
use Rattle.std.specs.Str.{bytes_eq}
use Rattle.host_core.specs.Nodes.{same_node}
use Rattle.host_core.specs.declared.node.Node.{Node}
use Rattle.host_core.specs.declared.node.Node.TheVariants.{File, Dir, Link}

abbrev pub is_no_directory : Node → Bool
is_no_directory (File bytes access) = true
is_no_directory (Dir access) = false
is_no_directory (Link target) = true

abbrev pub is_fit : Option Node → Option Node → Bool
is_fit None None = true
is_fit None (Some there) = true
is_fit (Some node) None = is_no_directory node
is_fit (Some node) (Some there) = is_no_directory node && same_node node there

-- a file or link stands there
abbrev pub is_loose : Option Node → Bool
is_loose None = false
is_loose (Some node) = is_no_directory node

-- the same bytes in two files, or the same target of two links, whatever the access
abbrev pub same_content : Node → Node → Bool
same_content (File bytes access) (File others owned) = bytes_eq bytes others
same_content (File bytes access) (Dir owned) = false
same_content (File bytes access) (Link target) = false
same_content (Dir access) (File others owned) = false
same_content (Dir access) (Dir owned) = false
same_content (Dir access) (Link target) = false
same_content (Link target) (File others owned) = false
same_content (Link target) (Dir owned) = false
same_content (Link target) (Link aimed) = bytes_eq target aimed

-- in format 0: where both names stand they are alike
abbrev pub is_double : Option Node → Option Node → Bool
is_double None None = true
is_double None (Some there) = true
is_double (Some node) None = true
is_double (Some node) (Some there) = same_content node there

-- in format 1 or in format 0
abbrev pub fits : Bool → Option Node → Option Node → Bool
fits true long short = is_fit long short
fits false long short = is_double long short
