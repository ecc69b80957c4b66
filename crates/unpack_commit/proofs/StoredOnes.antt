-- New control files in the place of all that are stored.
use Rattle.std.proofs.Common.{◌≡◌, inl, [], IsTrue, List, Option, Some, None, subst, refl}
use Rattle.host_core.specs.Paths.{Path}
use Rattle.host_core.specs.World.{World}
use Rattle.host_core.specs.Host.{State, AtEachMoment, Reads}
use Rattle.host_core.proofs.Moments.{since_reads, since_then, since_weaker_if}
use Rattle.host_core.specs.declared.node.Node.{Node}
use Rattle.administration.specs.Files.{NoDirectory}
use Rattle.administration.specs.Places.{temporary}
use Rattle.control_members.specs.Members.{member_node}
use Rattle.control_members.specs.Stored.{AreReplaced, AreReplacing, AreStoredNames, IsMembersReady, IsSpare, stored_member_path}
use Rattle.control_members.specs.declared.member.Member.{Member}
use Rattle.control_members.proofs.Replacing.{stored_whole}
use Rattle.unpack_commit.specs.Commit.{HasStored, IsStoring}

-- nothing was done yet

spare_still : (n : Option Node) (before : Option Node) → NoDirectory before → IsSpare n before before
spare_still None before none = refl
spare_still (Some node) before none = none

module _ (owner : Path) (members : List Member) where
  pub not_stored : (w : World) → IsMembersReady owner w → IsStoring owner members w w
  not_stored w ready = record {
    stale = [];
    replacing = record {
      own = λ name member. inl refl;
      spares = λ name member. spare_still (member_node members name) (w (temporary (stored_member_path owner name))) (ready.spares name member);
      rest = λ q out. refl;
    };
  }

  pub since_told : (a b : State) → (IsTrue a.honest → IsMembersReady owner a.world) → Reads a b → AtEachMoment (IsStoring owner members) a b
  since_told a b ready reads =
      since_weaker_if (λ so_far now. IsMembersReady owner a.world → IsStoring owner members a.world now) (λ so_far. IsStoring owner members a.world) a b (λ h so_far now is. is (ready (reads.honest h)))
      (since_reads (λ so_far now. IsMembersReady owner a.world → IsStoring owner members a.world now) a b reads (λ fs all r. not_stored a.world r))

  pub since_stored : (stale : List Path) (a b c : State) → (IsTrue a.honest → IsMembersReady owner a.world) → Reads a b → AtEachMoment (AreReplacing owner members stale) b c → AtEachMoment (IsStoring owner members) a c
  since_stored stale a b c ready reads second =
      since_then (λ so_far. IsStoring owner members a.world) a b c (since_told a b ready reads)
      (since_weaker_if (λ so_far. AreReplacing owner members stale b.world) (λ so_far. IsStoring owner members a.world) b c
      (λ h so_far now is. record { stale = stale; replacing = subst (λ w. AreReplacing owner members stale w now) reads.world is }) second)

  pub stored_all : (stale : List Path) (old mid new : World) → mid ≡ old → AreStoredNames old owner stale → AreReplaced owner members stale mid new → HasStored owner members old new
  stored_all stale old mid new same all is =
      let replaced = subst (λ w. AreReplaced owner members stale w new) same is in
      record { stale = stale; replaced = replaced; whole = stored_whole owner members stale old new all replaced }
