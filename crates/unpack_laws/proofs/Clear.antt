-- Where neither a file nor a link stands.
use Rattle.std.proofs.Common.{◌≡◌, Option, Some, None, refl, subst}
use Rattle.host_core.specs.World.{IsLoose}
use Rattle.host_core.specs.declared.node.Node.{Node}
use Rattle.host_core.specs.declared.node.Node.TheVariants.{File, Dir, Link}
use Rattle.host_core.proofs.Nodes.{none_stands}
use Rattle.file_removal.specs.Clearing.{cleared}
use Rattle.package_files.specs.Files.{cleared as cleared_name}
use Rattle.unpack_laws.specs.Done.{IsClear}

pub clear_none : (node : Option Node) → node ≡ None → IsClear node
clear_none node is loose = none_stands node is loose.0

pub cleared_clear : (node : Option Node) → IsClear (cleared node)
cleared_clear None loose = none_stands None refl loose.0
cleared_clear (Some (File bytes access)) loose = none_stands None refl loose.0
cleared_clear (Some (Dir access)) loose = loose.1 (access, refl)
cleared_clear (Some (Link target)) loose = none_stands None refl loose.0

pub name_clear : (node : Option Node) → IsClear (cleared_name node)
name_clear None loose = none_stands None refl loose.0
name_clear (Some (File bytes access)) loose = none_stands None refl loose.0
name_clear (Some (Dir access)) loose = loose.1 (access, refl)
name_clear (Some (Link target)) loose = none_stands None refl loose.0

pub clear_at : (there other : Option Node) → there ≡ other → IsClear other → IsClear there
clear_at there other same clear loose = clear (subst IsLoose same loose)
