-- The control files that are kept with the package: its scripts, and the other files of its tree (Policy 6.1).
use Rattle.std.specs.Prelude.{◌≡◌, ℕ, false, cond, List, [], ◌∷◌, Option, Some, None, is_some}
use Rattle.std.specs.Str.{bytes_eq}
use Rattle.host_core.specs.Outcome.{script_name}
use Rattle.host_core.specs.declared.call.Script.{Script}
use Rattle.host_core.specs.declared.node.Node.{Node}
use Rattle.administration.specs.Scripts.{script_of, file_of}
use Rattle.administration.specs.declared.scripts.Scripts.{Scripts}
use Rattle.control_members.specs.Members.{member_node}
use Rattle.control_members.specs.Names.{is_script_name}
use Rattle.control_members.specs.declared.member.Member.{Member}
use Rattle.package_tree.specs.declared.other_file.OtherFile.{OtherFile}
use Rattle.unpack_rows.specs.declared.rows.Present.{Present}

-- a name with its file
abbrev pub Named : Type 0
Named = List ℕ × Node

abbrev pub named_member : Member → Named
named_member m = (m.name, m.node)

abbrev pub named_other : OtherFile → Named
named_other o = (o.name, o.node)

-- the file of a name among those of the tree
abbrev pub other_node : List OtherFile → List ℕ → Option Node
other_node [] name = None
other_node (o ∷ os) name = cond (bytes_eq o.name name) (Some o.node) (other_node os name)

pub record AreMembersOf (scripts : Scripts) (others : List OtherFile) (members : List Member) : Type 0 where
  pub scripts_are : (script : Script) → member_node members (script_name script) ≡ file_of (script_of scripts script)
  pub others_are : (name : List ℕ) → is_script_name name ≡ false → member_node members name ≡ other_node others name

-- which of its scripts a tree has
abbrev pub scripts_in : Scripts → Present
scripts_in scripts = record {
  preinst = is_some scripts.preinst;
  postinst = is_some scripts.postinst;
  prerm = is_some scripts.prerm;
  postrm = is_some scripts.postrm;
}
