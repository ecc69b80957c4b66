-- A look behind another one.
use Rattle.std.proofs.Common.{Result, Ok, Err, IfOk, subst}
use Rattle.host_core.specs.World.{World}
use Rattle.host_core.specs.Host.{State}
use Rattle.host_core.specs.Looks.{Looks}
use Rattle.host_core.specs.declared.fault.HostFault.{HostFault}
use Rattle.host_core.proofs.Counted.{counts_behind}
use Rattle.host_core.proofs.Moments.{reads_then, silent_then}

-- what the second one tells, where the first has told x
pub looked_behind : {S T : Type 0} (x : S) (result : Result T HostFault) (P : S → World → Type 0) (Q R : T → World → Type 0) (a b c : State)
    → ((y : T) (w : World) → P x w → Q y w → R y w) → Looks (Ok x) P a b → Looks result Q b c → Looks result R a c
looked_behind {S} {T} x result P Q R a b c so first second = record {
  found = λ h. told result (first.found (second.reads.honest h)) (second.found h);
  reads = reads_then a b c first.reads second.reads;
  silent = silent_then a b c first.silent second.silent;
  counts = counts_behind a b c result first.counts second.counts;
}
  where
    told : (r : Result T HostFault) → P x a.world → IfOk r (λ y. Q y b.world) → IfOk r (λ y. R y a.world)
    told (Ok y) before is = so y a.world before (subst (Q y) first.reads.world is)
    told (Err fault) before is = tt
