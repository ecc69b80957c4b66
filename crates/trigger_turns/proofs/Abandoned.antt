-- Turns are abandoned only where the watcher wants no further unit to be begun.
use Rattle.std.proofs.Common.{◌≡◌, Option, Result, Ok, Err, Some, subst}
use Rattle.std.specs.Prelude.{IfErr, IfSome}
use Rattle.host_core.specs.Host.{State}
use Rattle.host_core.specs.declared.fault.HostFault.{HostFault}
use Rattle.unit_reports.proofs.Counting.{fault_not_abandoned}
use Rattle.unit_reports.specs.Units.{IsBrokenBy, breakage_of}
use Rattle.unit_reports.specs.declared.report.Breakage.TheVariants.{Abandoned}
use Rattle.unit_reports.specs.declared.report.Unit.{Unit as AUnit}
use Rattle.trigger_turns.specs.Turns.{EndsWith, IsCutOff, IsFull, answered}

-- for this cause alone, if it is
abbrev pub IsAbandonedFor : Type 0 → AUnit → Type 0
IsAbandonedFor P u = IsBrokenBy Abandoned u.reply → P

pub ends_abandoned : {T : Type 0} (P : Type 0) (r : Result T AUnit) (last : Option AUnit) → EndsWith r last → IfSome last (IsAbandonedFor P) → IfErr r (IsAbandonedFor P)
ends_abandoned P (Ok x) last ends holds = tt
ends_abandoned P (Err u) last ends holds = subst (λ (o : Option AUnit). IfSome o (IsAbandonedFor P)) ends holds

pub answered_abandoned : (P : Type 0) (r : Result (Unit {0}) AUnit) → IfErr r (IsAbandonedFor P) → IfErr (answered r) (IsAbandonedFor P)
answered_abandoned P (Ok x) holds = tt
answered_abandoned P (Err u) holds = holds

-- a unit that was cut off for a fault isn't

pub cut_off : (P : Type 0) (fault : HostFault) (u : AUnit) → IsCutOff (breakage_of fault) u → IsAbandonedFor P u
cut_off P fault u cut told = absurd (fault_not_abandoned fault u.reply cut.2 told)

pub full_abandoned : (P : Type 0) (r : Result (Unit {0}) AUnit) (s end : State) → IfErr r (λ u. IsFull u s end) → IfErr r (IsAbandonedFor P)
full_abandoned P (Ok x) s end full = tt
full_abandoned P (Err u) s end full = cut_off P full.fault u full.unbegun
