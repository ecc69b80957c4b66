-- A look behind another one.
use Rattle.std.proofs.Common.{◌≡◌, ◌∙◌, Option, Result, Ok, Err, IfOk, ap, subst}
use Rattle.host_core.specs.Host.{NoFault, Reads, Silent, State}
use Rattle.host_core.specs.Looks.{Looks}
use Rattle.host_core.specs.Paths.{Path}
use Rattle.host_core.specs.World.{World}
use Rattle.host_core.specs.declared.fault.HostFault.{HostFault}
use Rattle.host_core.proofs.LooksBehind.{looked_behind}
use Rattle.host_core.proofs.Moments.{reads_then, silent_then}
use Rattle.host_core.specs.declared.node.Node.{Node}
use Rattle.host_core.proofs.Counted.{counts_behind}

pub look_then : {T : Type 0} (result : Result T HostFault) (P Q : T → World → Type 0) (a b c : State) → Reads a b → Silent a b → NoFault a b → ((x : T) (w : World) → P x w → Q x w) → Looks result P b c → Looks result Q a c
look_then {T = T} result P Q a b c reads silent none weaker looks = record {
  found = λ h. told result (looks.found h);
  reads = reads_then a b c reads looks.reads;
  silent = silent_then a b c silent looks.silent;
  counts = counts_behind a b c result none looks.counts;
}
  where
    told : (r : Result T HostFault) → IfOk r (λ x. P x b.world) → IfOk r (λ x. Q x a.world)
    told (Ok x) is = weaker x a.world (subst (P x) reads.world is)
    told (Err e) is = tt

-- what is told of a node that was looked at
pub told_of_node : {T : Type 0} (told : Option Node → T) (path : Path) (node : Option Node) (result : Result T HostFault) (a b c : State)
    → Looks {T = Option Node} (Ok node) (λ n w. n ≡ w path) a b → Looks result (λ x w. x ≡ told node) b c → Looks result (λ x w. x ≡ told (w path)) a c
told_of_node told path node result a b c first second =
    looked_behind node result (λ n w. n ≡ w path) (λ x w. x ≡ told node) (λ x w. x ≡ told (w path)) a b c (λ y w at is. is ∙ ap told at) first second
