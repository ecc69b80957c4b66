-- Two moves, one after the other.
use Rattle.std.proofs.Common.{IsTrue}
use Rattle.host_core.specs.World.{World}
use Rattle.host_core.specs.Host.{State, AtEachMoment}
use Rattle.host_core.proofs.Moments.{since_then, since_weaker, since_weaker_if}

-- what holds at each moment of the first and of the second holds at each moment of both
pub then_at_each : (P Q R : World → World → Type 0) (a b c : State) → ((now : World) → P a.world now → R a.world now) → (IsTrue c.honest → (now : World) → Q b.world now → R a.world now)
    → AtEachMoment P a b → AtEachMoment Q b c → AtEachMoment R a c
then_at_each P Q R a b c first second one two = since_then (λ so_far. R a.world) a b c (since_weaker (λ so_far. P a.world) (λ so_far. R a.world) a b (λ so_far now is. first now is) one)
    (since_weaker_if (λ so_far. Q b.world) (λ so_far. R a.world) b c (λ h so_far now is. second h now is) two)

pub at_each : (P R : World → World → Type 0) (a b : State) → ((now : World) → P a.world now → R a.world now) → AtEachMoment P a b → AtEachMoment R a b
at_each P R a b so since = since_weaker (λ so_far. P a.world) (λ so_far. R a.world) a b (λ so_far now is. so now is) since
