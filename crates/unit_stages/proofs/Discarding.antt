-- Stored control files are looked for, and then they go.
use Rattle.std.proofs.Common.{inl, inr, Bool, List, IsTrue, refl, subst}
use Rattle.host_core.specs.Host.{State, AtEachMoment, Reads}
use Rattle.host_core.proofs.Moments.{since_reads}
use Rattle.host_core.specs.Paths.{Path}
use Rattle.control_members.specs.Stored.{AreStoredNames, AreTaken, AreTaking, goes}
use Rattle.listed_files.proofs.Moments.{then_at_each}
use Rattle.unit_stages.specs.Doing.{MayDrop}
use Rattle.unit_stages.specs.Parts.{HasDropped}

module _ (name : Path) (keep : Bool) (a b : State) (reads : Reads a b) where
  pub since_looked : AtEachMoment (MayDrop name keep) a b
  since_looked = since_reads (λ so_far. MayDrop name keep a.world) a b reads (λ fs all. inl refl)

  module _ (names : List Path) (c : State) where
    pub since_dropping : (IsTrue b.honest → AreStoredNames a.world name names) → AtEachMoment (AreTaking name (goes names keep)) b c → AtEachMoment (MayDrop name keep) a c
    since_dropping stored taking =
        then_at_each (MayDrop name keep) (AreTaking name (goes names keep)) (MayDrop name keep) a b c (λ now is. is)
        (λ h now is. inr (names, stored (taking.honest h), subst (λ w. AreTaking name (goes names keep) w now) reads.world is)) since_looked taking

    pub dropped_all : AreStoredNames a.world name names → AreTaken name (goes names keep) b.world c.world → HasDropped name keep a.world c.world
    dropped_all stored taken = record { names = names; stored = stored; taken = subst (λ w. AreTaken name (goes names keep) w c.world) reads.world taken }
