-- Control files of a package, by their names.
use Rattle.std.specs.Prelude.{List, Option, Some, None}
pub use Rattle.name_tables.specs.Order.{IsBefore}
use Rattle.name_tables.specs.Order as names
use Rattle.name_tables.specs.Tables.{value_in}
use Rattle.host_core.specs.Paths.{Path}
use Rattle.host_core.specs.declared.node.Node.{Node}
use Rattle.control_members.specs.declared.member.Member.{Member}

-- names in the order of their bytes, each once
abbrev pub AreInOrder : List Path → Type 0
AreInOrder = names.AreInOrder (λ (name : Path). name)

abbrev pub name_of : Member → Path
name_of m = m.name

abbrev pub names_of : List Member → List Path
names_of = names.names_of name_of

-- the first of a name
abbrev pub member_of : List Member → Path → Option Member
member_of = value_in name_of

abbrev pub node_of : Option Member → Option Node
node_of None = None
node_of (Some m) = Some m.node

-- the file of that name, where there is one
abbrev pub member_node : List Member → Path → Option Node
member_node members name = node_of (member_of members name)
