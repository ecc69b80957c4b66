-- What a unit's answer says of the faults of its host.
use Rattle.std.proofs.Common.{◌+◌, ℕ, Option, Some, None, Err, refl, sym, ap, subst, ◌∙◌, arith}
use Rattle.host_core.proofs.Counted.{declined_then, no_fault_same, no_fault_since, no_fault_then}
use Rattle.host_core.specs.Host.{State, Counts, HasFailed, NoFault}
use Rattle.host_core.specs.declared.fault.HostFault.{HostFault}
use Rattle.host_core.specs.declared.fault.HostFault.TheVariants as host
use Rattle.undo_rows.specs.declared.failure.Failure.{Failure}
use Rattle.undo_rows.specs.declared.failure.Failure.TheVariants.{OfCall, OfFiles}
use Rattle.undo_rows.specs.declared.fall.StepFault.{StepFault}
use Rattle.undo_rows.specs.declared.fall.StepFault.TheVariants as step
use Rattle.unit_reports.specs.Units.{CountsCause, CountsLast, CountsReply, CountsStepFault, IsBroken, IsBrokenBy, IsFromBefore, breakage_of}
use Rattle.unit_reports.specs.declared.report.Breakage.TheVariants.{Device, NoMemory, Declined, Damaged, Closed, Abandoned}
use Rattle.unit_reports.specs.declared.report.Reply.{Reply}
use Rattle.unit_reports.specs.declared.report.Reply.TheVariants.{Done, Refused, Failed, Looped, Broken}
use Rattle.unit_reports.specs.declared.report.Unit.{Unit as AUnit}

pub no_fault_here : (s : State) → NoFault s s
no_fault_here s = no_fault_same s s refl

failed_from : (a b c : State) → NoFault a b → HasFailed b c → HasFailed a c
failed_from a b c same failed = record { once = failed.once ∙ ap (λ (n : ℕ). n + 1) same.faults; last = failed.last }

fault_from : (fault : StepFault) (a b c : State) → NoFault a b → CountsStepFault b c fault → CountsStepFault a c fault
fault_from (step.LinkParent path) a b c same counts = no_fault_then a b c same counts
fault_from (step.NoParent path) a b c same counts = no_fault_then a b c same counts
fault_from (step.DirInWay path) a b c same counts = no_fault_then a b c same counts
fault_from (step.Clash path name) a b c same counts = no_fault_then a b c same counts
fault_from (step.DiversionTarget path diverter) a b c same counts = no_fault_then a b c same counts
fault_from (step.Declined path) a b c same counts = declined_then a b c same counts

pub cause_from : (cause : Failure) (a b c : State) → NoFault a b → CountsCause b c cause → CountsCause a c cause
cause_from (OfCall call) a b c same counts = no_fault_then a b c same counts
cause_from (OfFiles fault) a b c same counts = fault_from fault a b c same counts

fault_then : (fault : StepFault) (a b c : State) → CountsStepFault a b fault → NoFault b c → CountsStepFault a c fault
fault_then (step.LinkParent path) a b c counts same = no_fault_then a b c counts same
fault_then (step.NoParent path) a b c counts same = no_fault_then a b c counts same
fault_then (step.DirInWay path) a b c counts same = no_fault_then a b c counts same
fault_then (step.Clash path owner) a b c counts same = no_fault_then a b c counts same
fault_then (step.DiversionTarget path diverter) a b c counts same = no_fault_then a b c counts same
fault_then (step.Declined path) a b c counts same = record { faults = same.faults ∙ counts.faults; denials = omega (arith, counts.denials, same.denials) }

pub cause_then : (cause : Failure) (a b c : State) → CountsCause a b cause → NoFault b c → CountsCause a c cause
cause_then (OfCall call) a b c counts same = no_fault_then a b c counts same
cause_then (OfFiles fault) a b c counts same = fault_then fault a b c counts same

-- counted from an earlier state, since which the device hasn't failed
pub counts_from : (reply : Reply) (a b c : State) → NoFault a b → CountsReply b c reply → CountsReply a c reply
counts_from Done a b c same counts = no_fault_then a b c same counts
counts_from (Refused refusal) a b c same counts = no_fault_then a b c same counts
counts_from (Failed failure) a b c same counts = cause_from failure.cause a b c same counts
counts_from (Looped cycle) a b c same counts = no_fault_then a b c same counts
counts_from (Broken Device) a b c same counts = failed_from a b c same counts
counts_from (Broken NoMemory) a b c same counts = no_fault_then a b c same counts
counts_from (Broken Declined) a b c same counts = declined_then a b c same counts
counts_from (Broken Damaged) a b c same counts = no_fault_then a b c same counts
counts_from (Broken Closed) a b c same counts = no_fault_then a b c same counts
counts_from (Broken Abandoned) a b c same counts = no_fault_then a b c same counts

pub last_from : (last : Option AUnit) (a b c : State) → NoFault a b → CountsLast b c last → CountsLast a c last
last_from None a b c same counts = no_fault_then a b c same counts
last_from (Some u) a b c same counts = counts_from u.reply a b c same counts

-- a unit that wasn't broken off

fault_whole : (fault : StepFault) (a b : State) → CountsStepFault a b fault → NoFault a b
fault_whole (step.LinkParent path) a b counts = counts
fault_whole (step.NoParent path) a b counts = counts
fault_whole (step.DirInWay path) a b counts = counts
fault_whole (step.Clash path name) a b counts = counts
fault_whole (step.DiversionTarget path diverter) a b counts = counts
fault_whole (step.Declined path) a b counts = no_fault_since a b counts

cause_whole : (cause : Failure) (a b : State) → CountsCause a b cause → NoFault a b
cause_whole (OfCall call) a b counts = counts
cause_whole (OfFiles fault) a b counts = fault_whole fault a b counts

pub counts_whole : (reply : Reply) (a b : State) → (IsBroken reply → ⊥) → CountsReply a b reply → NoFault a b
counts_whole (Broken breakage) a b whole counts = absurd (whole tt)
counts_whole Done a b whole counts = counts
counts_whole (Refused refusal) a b whole counts = counts
counts_whole (Failed failure) a b whole counts = cause_whole failure.cause a b counts
counts_whole (Looped cycle) a b whole counts = counts

-- one that was, by a fault of the host

counts_fault : (T : Type 0) (fault : HostFault) (a b : State) → Counts {T = T} a b (Err fault) → CountsReply a b (Broken (breakage_of fault))
counts_fault T host.Device a b counts = counts
counts_fault T host.NoMemory a b counts = counts
counts_fault T host.Declined a b counts = counts

pub counts_broken : (T : Type 0) (fault : HostFault) (reply : Reply) (a b : State) → IsBrokenBy (breakage_of fault) reply → Counts {T = T} a b (Err fault) → CountsReply a b reply
counts_broken T fault reply a b broken counts = subst (CountsReply a b) (sym broken) (counts_fault T fault a b counts)

pub counts_no_memory : (reply : Reply) (a b : State) → NoFault a b → IsBrokenBy NoMemory reply → CountsReply a b reply
counts_no_memory reply a b same broken = subst (CountsReply a b) (sym broken) same

-- One that was broken off in itself, and not for what was there before it.

pub not_closed : (reply : Reply) → (IsFromBefore reply → ⊥) → IsBrokenBy Closed reply → ⊥
not_closed reply within closed = within (subst IsFromBefore (sym closed) tt)

pub not_abandoned : (reply : Reply) → (IsFromBefore reply → ⊥) → IsBrokenBy Abandoned reply → ⊥
not_abandoned reply within abandoned = within (subst IsFromBefore (sym abandoned) tt)

pub no_memory_within : (reply : Reply) → IsBrokenBy NoMemory reply → IsFromBefore reply → ⊥
no_memory_within reply broken before = subst IsFromBefore broken before

pub fault_within : (fault : HostFault) (reply : Reply) → IsBrokenBy (breakage_of fault) reply → IsFromBefore reply → ⊥
fault_within host.Device reply is before = subst IsFromBefore is before
fault_within host.NoMemory reply is before = subst IsFromBefore is before
fault_within host.Declined reply is before = subst IsFromBefore is before

pub no_memory_not_closed : (reply : Reply) → IsBrokenBy NoMemory reply → IsBrokenBy Closed reply → ⊥
no_memory_not_closed reply broken = not_closed reply (no_memory_within reply broken)

pub no_memory_not_abandoned : (reply : Reply) → IsBrokenBy NoMemory reply → IsBrokenBy Abandoned reply → ⊥
no_memory_not_abandoned reply broken = not_abandoned reply (no_memory_within reply broken)

pub fault_not_closed : (fault : HostFault) (reply : Reply) → IsBrokenBy (breakage_of fault) reply → IsBrokenBy Closed reply → ⊥
fault_not_closed fault reply is = not_closed reply (fault_within fault reply is)

pub fault_not_abandoned : (fault : HostFault) (reply : Reply) → IsBrokenBy (breakage_of fault) reply → IsBrokenBy Abandoned reply → ⊥
fault_not_abandoned fault reply is = not_abandoned reply (fault_within fault reply is)
