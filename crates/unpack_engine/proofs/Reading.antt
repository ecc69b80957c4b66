-- The table of diversions, read again: what its faults are to a unit.
use Rattle.std.proofs.Common.{◌≡◌, IsTrue, refl, sym, ap, subst, ◌∙◌}
use Rattle.std.specs.Prelude.{Bool, Err, IfOk, Ok, Result}
use Rattle.administration.specs.Fault.{CountsAdministration}
use Rattle.administration.specs.declared.fault.AdministrationFault.{AdministrationFault}
use Rattle.administration.specs.declared.fault.AdministrationFault.TheVariants.{Damaged, Device, NoMemory, Declined}
use Rattle.diversions.specs.Lines.{HasDiversions, IsDiversionsDamage}
use Rattle.diversions.specs.Ways.{Ways}
use Rattle.host_core.specs.Host.{Counts, State}
use Rattle.host_core.specs.World.{World}
use Rattle.host_core.specs.declared.fault.HostFault.{HostFault}
use Rattle.unpack_engine.specs.Tables.{fault_in}
use Rattle.unpack_engine.specs.Units.{IsTableIn}

pub unread : (fault : AdministrationFault) (w : World) (ways : Ways) → IsDiversionsDamage w fault → IfOk (fault_in fault) (λ changed. IsTableIn w ways ways)
unread (Damaged file line) w ways is = IsTableIn.damaged line is.1 refl
unread Device w ways is = tt
unread NoMemory w ways is = tt
unread Declined w ways is = tt

pub counts_in : (T : Type 0) (fault : AdministrationFault) (s t : State) → CountsAdministration {T = T} s t (Err fault) → Counts s t (fault_in fault)
counts_in T (Damaged file line) s t counts = counts
counts_in T Device s t counts = counts
counts_in T NoMemory s t counts = counts
counts_in T Declined s t counts = counts

pub if_ok_when : {T E N : Type 0} (result : Result T E) (P : T → Type 0) → (N → IfOk result P) → IfOk result (λ x. N → P x)
if_ok_when (Ok x) P is = is
if_ok_when (Err e) P is = tt

-- the same table, beside other aliases
pub table_beside : (w : World) (first mid late : Ways) → late.entries ≡ mid.entries → IsTableIn w first mid → IsTableIn w first late
table_beside w first mid late same (IsTableIn.read is) = IsTableIn.read (subst (HasDiversions w) (sym same) is)
table_beside w first mid late same (IsTableIn.damaged line at is) = IsTableIn.damaged line at (same ∙ is)
