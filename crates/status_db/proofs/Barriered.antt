-- What is done behind a barrier, or between two.
use Rattle.std.specs.Prelude.{Result, Ok, Err, OnOk, IsTrue}
use Rattle.std.proofs.Common.{sym, subst}
use Rattle.host_core.specs.World.{World, Barrier}
use Rattle.host_core.specs.Host.{State, AtEachMoment, Does, Leaves, Needs, Silent}
use Rattle.host_core.specs.Loss.{IsOnDisk}
use Rattle.host_core.proofs.Barriers.{barrier_world, on_disk, since_to_disk}
use Rattle.host_core.proofs.Moments.{since_then, since_weaker_if}
use Rattle.host_core.specs.declared.fault.HostFault.{HostFault}

pub always : {T E Q : Type 0} (result : Result T E) → Q → OnOk result Q
always (Ok x) is = is
always (Err e) is = tt

pub so_too : {T E Q R : Type 0} (result : Result T E) → (Q → R) → OnOk result Q → OnOk result R
so_too (Ok x) so is = so is
so_too (Err e) so is = tt

pub needs_behind : {T : Type 0} (result : Result T HostFault) (a b : State) (P : World → Type 0) → Does Barrier a b result → Silent a b → Needs a P → Needs b P
needs_behind result a b P does silent here = λ h. subst P (sym (barrier_world result a b does h)) (here (silent.honest h))

pub moments_before : {T : Type 0} (result : Result T HostFault) (a b c : State) (P : World → World → Type 0) → AtEachMoment P a b → Does Barrier b c result → AtEachMoment P a c
moments_before result a b c P since does = since_to_disk (λ so_far. P a.world) result a b c (λ x quiet w none is. is) since does

pub moments_behind : {T : Type 0} (result : Result T HostFault) (a b c : State) (P : World → World → Type 0) → AtEachMoment P a a → Does Barrier a b result → AtEachMoment P b c → AtEachMoment P a c
moments_behind result a b c P start does since =
    since_then (λ so_far. P a.world) a b c (moments_before result a a b P start does)
    (since_weaker_if (λ so_far. P b.world) (λ so_far. P a.world) b c (λ h so_far w is. subst (λ v. P v w) (barrier_world result a b does (since.honest h)) is) since)

pub left_behind : {T U : Type 0} (result : Result T HostFault) (done : Result U HostFault) (a b c : State) (P : World → World → Type 0) → Does Barrier a b result → Silent b c → Leaves done P b c → Leaves done P a c
left_behind result done a b c P does silent left = λ h. so_too done (subst (λ w. P w c.world) (barrier_world result a b does (silent.honest h))) (left h)

pub left_between : {T U : Type 0} (first : Result T HostFault) (last : Result U HostFault) (a b c d : State) (P : World → World → Type 0) → Does Barrier a b first → Silent b c → (IsTrue c.honest → P b.world c.world) → Does Barrier c d last → Silent c d → Leaves last P a d
left_between first last a b c d P does silent left then quiet = λ h.
    let h_c = quiet.honest h in
    always last (subst (P a.world) (sym (barrier_world last c d then h)) (subst (λ w. P w c.world) (barrier_world first a b does (silent.honest h_c)) (left h_c)))

pub disk_behind : {T : Type 0} (result : Result T HostFault) (a b : State) → Does Barrier a b result → OnOk result (IsOnDisk b.events)
disk_behind (Ok x) a b does = on_disk a b does
disk_behind (Err e) a b does = tt
