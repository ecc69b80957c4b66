-- What was declined in a part of what was done.
use Rattle.std.proofs.Common.{◌≡◌, ◌++◌, ◌∷◌, [], Result, Ok, Err, OnOk, false, List, inl, inr, sym, subst, ◌∙◌, IsTrue}
use Rattle.std.proofs.lemmas.List.{append_cancel_left}
use Rattle.host_core.specs.Paths.{Path}
use Rattle.host_core.specs.World.{World, Barrier}
use Rattle.host_core.specs.Events.{Event, Did, IsDeniedIn}
use Rattle.host_core.specs.Host.{State, AtEachMoment, Happens, Since, WasDenied}
use Rattle.host_core.specs.declared.node.Node.{Node}
use Rattle.host_core.proofs.Denials.{added_then_denied, denied_front, denied_behind}
use Rattle.host_core.proofs.Moments.{grown, since_barrier, since_then, since_weaker, since_weaker_if}
use Rattle.file_removal.specs.declared.leaving.Leaving.{Leaving}
use Rattle.file_removal.specs.Removal.{IsRemoving, Removed}
use Rattle.file_removal.proofs.Leavings.{unless_wider}
use Rattle.file_removal.proofs.Removing.{removing_start}
use Rattle.listed_files.specs.Closing.{BeganWithBarrier, HasRenewedUnless, MayRenewUnless}

-- of the events between two states
pub denied_among : (a b : State) (added : List Event) (p : Path) → b.events ≡ a.events ++ added → WasDenied a b p → IsDeniedIn added p
denied_among a b added p events denied = subst (λ es. IsDeniedIn es p) (append_cancel_left a.events denied.0 added (sym denied.1 ∙ events)) denied.2

-- of them and others
pub denied_here : (a b : State) (added later : List Event) (p : Path) → b.events ≡ a.events ++ added → WasDenied a b p → IsDeniedIn (added ++ later) p
denied_here a b added later p events denied = denied_front added later p (denied_among a b added p events denied)

-- where more was declined the same is said of a renewal
module _ (declined more : Path → Type 0) (wide : (p : Path) → declined p → more p) (leaving : List Leaving) (list : Path) (node : Node) (old : World) where
  pub renewed_wider : (new : World) → HasRenewedUnless declined leaving list node old new → HasRenewedUnless more leaving list node old new
  renewed_wider new has = record { mid = has.mid; removed = unless_wider declined more false leaving old has.mid wide has.removed; replaced = has.replaced }

  pub renewing_wider : (now : World) → MayRenewUnless declined leaving list node old now → MayRenewUnless more leaving list node old now
  renewing_wider now (inl is) = inl is
  renewing_wider now (inr m) = inr (m.0, unless_wider declined more false leaving old m.0 wide m.1, m.2)

-- two moves, of the second of which what was done in the first is seen too
module _ (P Q : World → World → Type 0) (R : World → List Event → World → Type 0) (a b c : State) where
  pub then_at_each_of : ((so_far : List Event) (now : World) → P a.world now → R a.world so_far now)
      → (IsTrue c.honest → (added later : List Event) (now : World) → b.events ≡ a.events ++ added → Q b.world now → R a.world (added ++ later) now)
      → Since (λ so_far. P a.world) a b → Since (λ so_far. Q b.world) b c → Since (R a.world) a c
  then_at_each_of first second one two =
      let begun = since_weaker (λ so_far. P a.world) (R a.world) a b (λ so_far now is. first so_far now is) one in
      since_then (R a.world) a b c begun (since_weaker_if (λ so_far. Q b.world) (λ so_far. R a.world (begun.added ++ so_far)) b c (λ h later now is. second h begun.added later now begun.events is) two)

-- what began with a barrier still did, whatever was done behind it
pub began_later : (a b c : State) (more : List Event) → c.events ≡ b.events ++ more → BeganWithBarrier a b → BeganWithBarrier a c
began_later a b c more events first = (first.0 ++ more, grown a.events b.events c.events (Did Barrier ∷ first.0) more first.1 events)

-- whatever the answer
pub on_ok_so : {T E : Type 0} (result : Result T E) (P : Type 0) → P → OnOk result P
on_ok_so (Ok x) P is = is
on_ok_so (Err e) P is = tt

-- a removal behind a barrier
module _ (xs : List Leaving) (a b c : State) (goes : Happens (Did Barrier ∷ []) a b) where
  pub barrier_removing : AtEachMoment (IsRemoving xs) b c → AtEachMoment (IsRemoving xs) a c
  barrier_removing since = since_then (λ so_far. IsRemoving xs a.world) a b c
      (since_barrier (IsRemoving xs a.world) {T = Unit {0}} (Ok tt) a b goes (λ h. removing_start false xs a.world))
      (subst (λ w. Since (λ so_far. IsRemoving xs w) b c) goes.world since)

  pub barrier_removed : Removed (WasDenied b c) xs b.world c.world → Removed (WasDenied a c) xs a.world c.world
  barrier_removed removed = subst (λ w. Removed (WasDenied a c) xs w c.world) goes.world
      (unless_wider (WasDenied b c) (WasDenied a c) false xs b.world c.world (λ p denied. added_then_denied a b c p (Did Barrier ∷ []) goes.events denied) removed)

  pub began : (more : List Event) (d : State) → d.events ≡ b.events ++ more → BeganWithBarrier a d
  began more d events = (more, grown a.events b.events d.events (Did Barrier ∷ []) more goes.events events)
