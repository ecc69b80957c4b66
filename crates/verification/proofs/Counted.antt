-- How often the device failed behind looks that were told.
use Rattle.std.proofs.Common.{◌≡◌, ◌+◌, ◌<◌, ◌≤◌, Result, Ok, Err, IsErrAnd, sym, ap, subst, arith}
use Rattle.host_core.specs.Events.{denials_of, faults_of}
use Rattle.host_core.specs.Host.{Counts, NoFault, Reads, State, denials, faults}
use Rattle.host_core.proofs.Counted.{denials_of-append, faults_of-append}
use Rattle.host_core.specs.declared.fault.HostFault.{HostFault}
use Rattle.host_core.specs.declared.fault.HostFault.TheVariants.{Device, NoMemory, Declined}
use Rattle.administration.specs.Fault.{CountsAdministration, fault_of}
use Rattle.administration.specs.declared.fault.AdministrationFault.{AdministrationFault}
use Rattle.administration.specs.declared.fault.AdministrationFault.TheVariants as administration
use Rattle.verification.specs.Counting.{CountsLooks, CountsVerified}

-- a look forgets no fault
more_faults : (s t : State) → Reads s t → faults s ≤ faults t
more_faults s t reads = omega (arith, ap faults_of reads.events, faults_of-append s.events reads.added)

more_denials : (s t : State) → Reads s t → denials s ≤ denials t
more_denials s t reads = omega (arith, ap denials_of reads.events, denials_of-append s.events reads.added)

-- a call that only looks
pub counts_one : {T : Type 0} (result : Result T HostFault) (s t : State) → Counts s t result → CountsLooks s t result
counts_one (Ok x) s t counts = tt
counts_one (Err Device) s t counts = omega (arith, counts.once)
counts_one (Err NoMemory) s t counts = tt
counts_one (Err Declined) s t counts = counts.denials

-- behind others
pub counts_then : {T : Type 0} (result : Result T HostFault) (s t u : State) → Reads s t → CountsLooks t u result → CountsLooks s u result
counts_then (Ok x) s t u reads counts = tt
counts_then (Err Device) s t u reads counts = (let less = more_faults s t reads in omega (arith, less, counts))
counts_then (Err NoMemory) s t u reads counts = tt
counts_then (Err Declined) s t u reads counts = (let less = more_denials s t reads in omega (arith, less, counts))

-- the fault that is passed on tells the same
pub counts_passed : {T : Type 0} (U : Type 0) (given : HostFault) (result : Result T HostFault) (s t u : State) → Reads s t → IsErrAnd result (λ e. e ≡ given) → CountsLooks {T = U} t u (Err given) → CountsLooks s u result
counts_passed {T = T} U given (Ok x) s t u reads is counts = absurd is
counts_passed {T = T} U given (Err fault) s t u reads is counts = counts_then {T = T} (Err fault) s t u reads (same fault given is counts)
  where
    either : (f : HostFault) → CountsLooks {T = U} t u (Err f) → CountsLooks {T = T} t u (Err f)
    either Device known = known
    either NoMemory known = known
    either Declined known = known

    same : (a b : HostFault) → a ≡ b → CountsLooks {T = U} t u (Err b) → CountsLooks {T = T} t u (Err a)
    same a b e known = either a (subst (λ (f : HostFault). CountsLooks {T = U} t u (Err f)) (sym e) known)

-- the whole, which a fault of the host ends behind a reading at which there was none
pub verified_passed : (T : Type 0) (h : HostFault) (fault : AdministrationFault) (s t u : State) → NoFault s t → CountsLooks {T = T} t u (Err h) → fault ≡ fault_of h → CountsVerified {T = T} s u (Err fault)
verified_passed T Device fault s t u none counts is = subst (λ (f : AdministrationFault). CountsVerified {T = T} s u (Err f)) (sym is) (omega (arith, none.faults, counts))
verified_passed T NoMemory fault s t u none counts is = subst (λ (f : AdministrationFault). CountsVerified {T = T} s u (Err f)) (sym is) tt
verified_passed T Declined fault s t u none counts is = subst (λ (f : AdministrationFault). CountsVerified {T = T} s u (Err f)) (sym is) (omega (arith, none.denials, counts))
