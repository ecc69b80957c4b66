-- A package with the accesses that an administrator set.
use Rattle.std.specs.Prelude.{Bool, true, false, is_none, List, Option, Some, None, option_map, map, find}
use Rattle.host_core.specs.Paths.{Path}
use Rattle.host_core.specs.declared.node.Access.{Access}
use Rattle.host_core.specs.declared.node.Node.{Node}
use Rattle.host_core.specs.declared.node.Node.TheVariants.{File, Dir, Link}
use Rattle.name_tables.specs.Tables.{value_in}
use Rattle.package_tree.specs.declared.package.Package.{Package}
use Rattle.package_tree.specs.declared.shipped.Shipped.{Shipped}
use Rattle.stat_overrides.specs.Fitting.{overridden_files, overridden_fitting}
use Rattle.stat_overrides.specs.Overrides.{access_by}
use Rattle.stat_overrides.specs.Reading.{path_of}
use Rattle.stat_overrides.specs.declared.lines.Override.{Override}
use Rattle.stat_overrides.specs.declared.table.Overrides.{Overrides}

-- each shipped file and directory that an override names has its access, and all else stays
abbrev pub overridden : Overrides → Package → Package
overridden overrides p = record p { files = overridden_files overrides p.files; fitting = overridden_fitting overrides p.files p.conffiles p.flagged p.fitting }

-- whether it has an access at all
abbrev pub has_access : Node → Bool
has_access (File bytes access) = true
has_access (Dir access) = true
has_access (Link target) = false

-- the number of an owner of its isn't known
abbrev pub lacks_owner : Overrides → Option Override → Bool
lacks_owner overrides None = false
lacks_owner overrides (Some o) = is_none (access_by overrides o)

abbrev pub is_unknown_at : Overrides → Path → Bool → Bool
is_unknown_at overrides path true = lacks_owner overrides (value_in path_of overrides.table path)
is_unknown_at overrides path false = false

-- an override names what is shipped, and an owner whose number isn't known
abbrev pub is_unknown : Overrides → Shipped → Bool
is_unknown overrides file = is_unknown_at overrides file.path (has_access file.node)

-- the first such path
abbrev pub first_unknown : Overrides → List Shipped → Option Path
first_unknown overrides files = option_map (λ file. file.path) (find (is_unknown overrides) files)
