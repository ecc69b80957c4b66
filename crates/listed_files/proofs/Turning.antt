-- What a list and its files are at each moment, with barriers between.
use Rattle.std.proofs.Common.{IsTrue, Result}
use Rattle.host_core.specs.World.{World, Barrier}
use Rattle.host_core.specs.Host.{State, AtEachMoment, Does}
use Rattle.host_core.specs.declared.fault.HostFault.{HostFault}
use Rattle.host_core.proofs.Barriers.{since_to_disk}
use Rattle.host_core.proofs.Moments.{since_then, since_weaker_if}

-- a barrier behind what holds at each moment
pub to_disk : {T : Type 0} (P : World → World → Type 0) (result : Result T HostFault) (a b c : State) → AtEachMoment P a b → Does Barrier b c result → AtEachMoment P a c
to_disk P result a b c first does = since_to_disk (λ so_far. P a.world) result a b c (λ x quiet w none is. is) first does

-- what holds at each moment of a later part holds at each moment of all
pub then_later : (P Q : World → World → Type 0) (a b c : State) → AtEachMoment P a b → (IsTrue c.honest → (now : World) → Q b.world now → P a.world now) → AtEachMoment Q b c → AtEachMoment P a c
then_later P Q a b c first so second = since_then (λ so_far. P a.world) a b c first (since_weaker_if (λ so_far. Q b.world) (λ so_far. P a.world) b c (λ h so_far now is. so h now is) second)
