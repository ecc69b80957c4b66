-- Control files that were written one after another.
use Rattle.std.proofs.Common.{◌≡◌, ◌⊎◌, true, List}
use Rattle.host_core.specs.Paths.{Path}
use Rattle.host_core.specs.World.{World}
use Rattle.administration.specs.Places.{temporary}
use Rattle.control_members.specs.Names.{is_member_name}
use Rattle.control_members.specs.Members.{member_node}
use Rattle.control_members.specs.Stored.{stored_member_path, over, replaced_spare, IsSpare, KeepsBesideWritten}
use Rattle.control_members.specs.declared.member.Member.{Member}

-- each of them stands in the place of what stood there
pub record AreWritten (owner : Path) (members : List Member) (before now : World) : Type 0 where
  pub stands : (name : Path) → is_member_name name ≡ true → now (stored_member_path owner name) ≡ over (member_node members name) (before (stored_member_path owner name))
  pub spares : (name : Path) → is_member_name name ≡ true → now (temporary (stored_member_path owner name)) ≡ replaced_spare members name (before (temporary (stored_member_path owner name)))
  pub rest : KeepsBesideWritten owner before now

-- at each moment: what stood there, or one of them
pub record AreWriting (owner : Path) (members : List Member) (before now : World) : Type 0 where
  pub own : (name : Path) → is_member_name name ≡ true
      → (now (stored_member_path owner name) ≡ before (stored_member_path owner name)) ⊎ (now (stored_member_path owner name) ≡ over (member_node members name) (before (stored_member_path owner name)))
  pub spares : (name : Path) → is_member_name name ≡ true → IsSpare (member_node members name) (before (temporary (stored_member_path owner name))) (now (temporary (stored_member_path owner name)))
  pub rest : KeepsBesideWritten owner before now
