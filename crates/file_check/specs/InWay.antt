-- Which directories are in the way of a shipped path.
use Rattle.std.specs.Prelude.{◌||◌, Bool, true, false, not, Option, None, Some}
use Rattle.std.specs.Str.{bytes_eq}
use Rattle.host_core.specs.World.{World, kind_of}
use Rattle.host_core.specs.declared.node.Kind.{Kind}
use Rattle.host_core.specs.declared.node.Kind.TheVariants as kind
use Rattle.host_core.specs.declared.node.Node.{Node}
use Rattle.host_core.specs.declared.node.Node.TheVariants.{File, Dir, Link}
use Rattle.aliases.specs.Aliases.{resolved}
use Rattle.diversions.specs.Sights.{is_directory_kind}
use Rattle.package_files.specs.declared.work.Work.{Work}
use Rattle.file_check.specs.Clashes.{Owning}
use Rattle.file_check.specs.Ships.{is_astray}
use Rattle.file_check.specs.declared.sight.Sight.{Sight}

-- a directory stands at the target, or at a name that a file or link is written under
abbrev pub at_names : (target backup fresh : Option Kind) → Bool
at_names target backup fresh = is_directory_kind target || (is_directory_kind backup || is_directory_kind fresh)

-- A directory is in the way: at the place of a file, at a name that a file or link needs, or, for a directory in a file's
-- place, at the backup. A directory may not be shipped at a diverted path. What is left alone needs no name.
abbrev pub in_way : (diverted : Bool) → Node → (place target backup fresh : Option Kind) → Bool
in_way diverted (File b m) None target backup fresh = at_names target backup fresh
in_way diverted (File b m) (Some kind.File) target backup fresh = at_names target backup fresh
in_way diverted (File b m) (Some kind.Directory) target backup fresh = true
in_way diverted (File b m) (Some kind.SymbolicLink) target backup fresh = at_names target backup fresh
in_way diverted (Dir m) None target backup fresh = diverted
in_way diverted (Dir m) (Some kind.File) target backup fresh = diverted || is_directory_kind backup
in_way diverted (Dir m) (Some kind.Directory) target backup fresh = diverted
in_way diverted (Dir m) (Some kind.SymbolicLink) target backup fresh = diverted
in_way diverted (Link t) None target backup fresh = at_names target backup fresh
in_way diverted (Link t) (Some kind.File) target backup fresh = at_names target backup fresh
in_way diverted (Link t) (Some kind.Directory) target backup fresh = false
in_way diverted (Link t) (Some kind.SymbolicLink) target backup fresh = at_names target backup fresh

-- the path has another place than that of its name, links followed
abbrev pub is_diverted : Owning → Work → Bool
is_diverted o s = not (bytes_eq (resolved o.ways.aliases s.path) s.place)

-- the kinds of what stands at the place and at the names beside it
abbrev pub sight_of : World → Work → Sight
sight_of w s = record { place = kind_of (w s.place); backup = kind_of (w s.backup); fresh = kind_of (w s.fresh) }

-- The same by what was seen; and the directory behind an alias is in the way of a link that would lead elsewhere.
abbrev pub in_way_by : Owning → Work → Option Kind → Sight → Bool
in_way_by o s target sight = is_astray o.ways s || in_way (is_diverted o s) s.node sight.place target sight.backup sight.fresh

abbrev pub in_way_at : Owning → World → Work → Bool
in_way_at o w s = in_way_by o s (kind_of (w s.target)) (sight_of w s)
