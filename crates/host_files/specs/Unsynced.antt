-- The files that were written and aren't synced yet.
use Rattle.std.specs.Prelude.{◌≡◌, Bool, true, false, ◌||◌, not, nat_eq, bit_and, List, Contains}
use Rattle.std.specs.List.{filter}
use Rattle.std.specs.Str.{bytes_eq}
use Rattle.host_core.specs.Paths.{Path}
use Rattle.host_core.specs.declared.node.Access.{Access}
use Rattle.host_core.specs.declared.node.Node.{Node}
use Rattle.host_core.specs.declared.node.Node.TheVariants.{File, Dir, Link}
use Rattle.host_files.specs.declared.written.Unsynced.{Unsynced}

-- the superuser, or else its own user, may read a file with this access
abbrev pub is_readable : Bool → Access → Bool
is_readable owners access = owners || not (nat_eq (bit_and access.mode 0o400) 0)

-- a file is listed as one that isn't synced, unless it can't be opened again
abbrev pub is_listed : Bool → Node → Bool
is_listed owners (File bytes access) = is_readable owners access
is_listed owners (Dir access) = false
is_listed owners (Link target) = false

-- what was written at a path is among these, if it is to be
abbrev pub IsListed : Bool → List Unsynced → Path → Node → Type 0
IsListed owners files path node = is_listed owners node ≡ true → (file : Unsynced) × Contains files file × (file.path ≡ path)

-- those at other paths
abbrev pub others : Path → List Unsynced → List Unsynced
others path files = filter (λ file. not (bytes_eq file.path path)) files
