-- What a fault of a reading of the table of diversions breaks off.
use Rattle.std.proofs.Common.{◌≡◌, Err, subst, sym, ◌∙◌}
use Rattle.administration.specs.Fault.{CountsAdministration}
use Rattle.administration.specs.declared.fault.AdministrationFault.{AdministrationFault}
use Rattle.administration.specs.declared.fault.AdministrationFault.TheVariants as fault
use Rattle.diversions.specs.Lines.{IsDiversionsDamage}
use Rattle.host_core.specs.Host.{State}
use Rattle.host_core.specs.World.{World}
use Rattle.unit_reports.specs.Units.{CountsReply, IsBrokenBy, IsFromBefore}
use Rattle.unit_reports.specs.declared.report.Breakage.TheVariants.{Device, NoMemory, Declined, Damaged}
use Rattle.unit_reports.specs.declared.report.Reply.{Reply}
use Rattle.unit_reports.specs.declared.report.Reply.TheVariants.{Broken}
use Rattle.dpkg_session.specs.Rereading.{IsTableDamaged, reading_breakage}

pub damage_of : (fault : AdministrationFault) (reply : Reply) (w : World) → IsBrokenBy (reading_breakage fault) reply → IsBrokenBy Damaged reply → IsDiversionsDamage w fault → IsTableDamaged w
damage_of (fault.Damaged file line) reply w is told damage = (line, damage.1)
damage_of fault.Device reply w is told damage = let e : Broken Device ≡ Broken Damaged = sym is ∙ told in cc
damage_of fault.NoMemory reply w is told damage = let e : Broken NoMemory ≡ Broken Damaged = sym is ∙ told in cc
damage_of fault.Declined reply w is told damage = let e : Broken Declined ≡ Broken Damaged = sym is ∙ told in cc

counts_fault : (fault : AdministrationFault) (s t : State) → CountsAdministration {T = Unit {0}} s t (Err fault) → CountsReply s t (Broken (reading_breakage fault))
counts_fault (fault.Damaged file line) s t counts = counts
counts_fault fault.Device s t counts = counts
counts_fault fault.NoMemory s t counts = counts
counts_fault fault.Declined s t counts = counts

pub counts_reading : (fault : AdministrationFault) (reply : Reply) (s t : State) → IsBrokenBy (reading_breakage fault) reply → CountsAdministration {T = Unit {0}} s t (Err fault) → CountsReply s t reply
counts_reading fault reply s t is counts = subst (CountsReply s t) (sym is) (counts_fault fault s t counts)

pub reading_within : (fault : AdministrationFault) (reply : Reply) → IsBrokenBy (reading_breakage fault) reply → IsFromBefore reply → ⊥
reading_within (fault.Damaged file line) reply is before = subst IsFromBefore is before
reading_within fault.Device reply is before = subst IsFromBefore is before
reading_within fault.NoMemory reply is before = subst IsFromBefore is before
reading_within fault.Declined reply is before = subst IsFromBefore is before
