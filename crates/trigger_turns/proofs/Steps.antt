-- Looks, faults and what is held, behind another.
use Rattle.std.proofs.Common.{◌≡◌, ◌∙◌, List, [], Ok, Err, ap, arith, subst, sym}
use Rattle.host_core.proofs.Counted.{declined_then, no_fault_then}
use Rattle.host_core.specs.Host.{Counts, HasFailed, NoFault, State}
use Rattle.host_core.specs.Looks.{Looks}
use Rattle.host_core.specs.World.{World}
use Rattle.host_core.specs.declared.fault.HostFault.{HostFault}
use Rattle.host_core.specs.declared.fault.HostFault.TheVariants.{Device, NoMemory, Declined}
use Rattle.unit_reports.specs.Held.{Held}
use Rattle.unit_reports.specs.declared.report.Unit.{Unit as AUnit}
use Rattle.trigger_turns.specs.Told.{AreToldInTurns}

pub looks_as : {T U : Type 0} (f : T → U) (x : T) (P : U → World → Type 0) (s t : State) → Looks (Ok x) (λ v w. P (f v) w) s t → Looks (Ok (f x)) P s t
looks_as f x P s t l = record { found = l.found; reads = l.reads; silent = l.silent; counts = l.counts }

pub held_same : {A D : Type 0} (f : A → D → Held) (a b : A) (d e : D) → b ≡ a → e ≡ d → f b e ≡ f a d
held_same f a b d e is same = ap (λ x. f x e) is ∙ ap (f a) same

pub turns_none : {W : Type 0} (tells : W → AUnit → State → W → Type 0) (w : W) (us : List AUnit) → us ≡ [] → AreToldInTurns tells w us w
turns_none tells w us is = subst (λ (l : List AUnit). AreToldInTurns tells w l w) (sym is) AreToldInTurns.nothing

failed_then : (s m t : State) → NoFault s m → HasFailed m t → HasFailed s t
failed_then s m t first later = record { once = let same = first.faults in let once = later.once in omega (arith, same, once); last = later.last }

-- a fault behind what went well
pub counts_then : (s m t : State) (fault : HostFault) → NoFault s m → Counts {T = Unit {0}} m t (Err fault) → Counts {T = Unit {0}} s t (Err fault)
counts_then s m t Device first later = failed_then s m t first later
counts_then s m t NoMemory first later = no_fault_then s m t first later
counts_then s m t Declined first later = declined_then s m t first later
