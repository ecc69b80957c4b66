-- What is done of a step at which the device fails can be done, and keeps settled what is.
use Rattle.std.proofs.Common.{◌≡◌, ℕ, List, Some, None, take, subst, ap}
use Rattle.host_core.specs.World.{World, Step, Write, Move, Take, MakeDir, RemoveDir, HardLink, MakeLink, Sync, Barrier, SyncAll, SyncRoot, Lower, IsFile}
use Rattle.host_core.specs.Events.{Event}
use Rattle.host_core.specs.Unsynced.{KeepsSettled}
use Rattle.host_core.specs.declared.node.Node.{Node}
use Rattle.host_memory.specs.declared.fault_plan.Effect.{Effect}
use Rattle.host_memory.specs.declared.fault_plan.Effect.TheVariants as effect
use Rattle.host_memory.specs.Able.{CanDo}
use Rattle.host_memory.specs.Doings.{cut_short, part_left}

the_same : (s t : Step) → Some s ≡ Some t → s ≡ t
the_same s t is = cc

never : {T : Type 0} (t : Step) → None ≡ Some t → T
never t is = absurd (cc)

file_cut : (n : ℕ) (node : Node) → IsFile node → IsFile (cut_short n node)
file_cut n node is = (take n is.0, is.1, ap (cut_short n) is.2)

module _ (t : Step) (w : World) where
  can_front : (n : ℕ) (s : Step) → part_left (effect.Prefix n) s ≡ Some t → CanDo s w → CanDo t w
  can_front n (Write p node) is can = subst (λ (x : Step). CanDo x w) (the_same (Write p (cut_short n node)) t is) (file_cut n node can.0, can.1, can.2)
  can_front n (Move a b) is can = never t is
  can_front n (Take p) is can = never t is
  can_front n (MakeDir p m) is can = never t is
  can_front n (RemoveDir p) is can = never t is
  can_front n (HardLink a b) is can = never t is
  can_front n (MakeLink p l) is can = never t is
  can_front n (Sync p) is can = never t is
  can_front n Barrier is can = never t is
  can_front n SyncAll is can = never t is
  can_front n SyncRoot is can = never t is
  can_front n (Lower p) is can = never t is

  pub can_part : (e : Effect) (s : Step) → part_left e s ≡ Some t → CanDo s w → CanDo t w
  can_part effect.None s is can = never t is
  can_part effect.Whole s is can = subst (λ (x : Step). CanDo x w) (the_same s t is) can
  can_part (effect.Prefix n) s is can = can_front n s is can

module _ (t : Step) (events : List Event) where
  settles_front : (n : ℕ) (s : Step) → part_left (effect.Prefix n) s ≡ Some t → KeepsSettled events s → KeepsSettled events t
  settles_front n (Write p node) is owed = subst (KeepsSettled events) (the_same (Write p (cut_short n node)) t is) owed
  settles_front n (Move a b) is owed = never t is
  settles_front n (Take p) is owed = never t is
  settles_front n (MakeDir p m) is owed = never t is
  settles_front n (RemoveDir p) is owed = never t is
  settles_front n (HardLink a b) is owed = never t is
  settles_front n (MakeLink p l) is owed = never t is
  settles_front n (Sync p) is owed = never t is
  settles_front n Barrier is owed = never t is
  settles_front n SyncAll is owed = never t is
  settles_front n SyncRoot is owed = never t is
  settles_front n (Lower p) is owed = never t is

  pub settles_part : (e : Effect) (s : Step) → part_left e s ≡ Some t → KeepsSettled events s → KeepsSettled events t
  settles_part effect.None s is owed = never t is
  settles_part effect.Whole s is owed = subst (KeepsSettled events) (the_same s t is) owed
  settles_part (effect.Prefix n) s is owed = settles_front n s is owed
