use Rattle.std.proofs.Common.{◌⊎◌, subst}
use Rattle.diversions.proofs.Turning.{goes_here}
use Rattle.diversions.specs.declared.refusal.Seen.{Seen}
use Rattle.dpkg_session.specs.Diversions.{IsDiverted}
use Rattle.unit_reports.specs.Units.{IsBroken}
use Rattle.dpkg_session.proofs.TableUnits.{one_unit}
use Rattle.dpkg_session.proofs.diverting.divert_on.Goals as goal

pub returns-clause-whole : goal.returns-clause-whole
returns-clause-whole g c =
    let unit = c.add_unit-unit.result in
    let old = g.H.Host.state c.args.host.now in
    let new = g.H.Host.state c.add_unit-unit.new.host in
    one_unit _ unit c.report_of.result c.report_of.ensures
    (subst (λ (seen : Seen). IsBroken unit.reply ⊎ IsDiverted c.args.asked.now seen c.args.diversions.now.ways c.add_unit-unit.new.diversions.ways unit old new) c.in-Ok.ensures c.add_unit-unit.ensures.unit)

pub returns-then-is_err-clause-turns : goal.returns-then-is_err-clause-turns
returns-then-is_err-clause-turns g c = goes_here _

pub returns-in_default-clause-turns : goal.returns-in_default-clause-turns
returns-in_default-clause-turns g c = goes_here _
