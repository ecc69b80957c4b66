-- Which lists of other packages and which control files of the package stand at a moment of an unpack: never a part
-- (Policy 6.6, 7.6.1).
use Rattle.std.specs.Prelude.{◌≡◌, ℕ, List, Option, Some, None}
use Rattle.host_core.specs.Paths.{Path}
use Rattle.host_core.specs.declared.node.Node.{Node}
use Rattle.control_members.specs.Members.{member_node}
use Rattle.control_members.specs.declared.member.Member.{Member}
use Rattle.file_lists.specs.Owners.{paths_of}
use Rattle.file_lists.specs.Writing.{left_paths, list_file}
use Rattle.unpack_engine.specs.Units.{Given}
use Rattle.unpack_plan.specs.Members.{AreMembersOf}
use Rattle.unpack_laws.specs.InHand.{LosesPlaces}

module _ (g : Given) where
  -- the list of another package: the one of before, or that without the places that it loses
  pub data IsOtherList (q : List ℕ) (before now : Option Node) : Type 0 where
    stood : now ≡ before → IsOtherList q before now
    left : (taken : List Path) → LosesPlaces g q taken → now ≡ Some (list_file (left_paths g.ways taken q (paths_of g.lists q))) → IsOtherList q before now

  -- a stored control file of the package: the one of before, none, or that of the tree
  pub data IsOwnMember (name : Path) (before now : Option Node) : Type 0 where
    stood : now ≡ before → IsOwnMember name before now
    gone : now ≡ None → IsOwnMember name before now
    stored : (members : List Member) → AreMembersOf g.«package».scripts g.«package».others members → now ≡ member_node members name → IsOwnMember name before now
