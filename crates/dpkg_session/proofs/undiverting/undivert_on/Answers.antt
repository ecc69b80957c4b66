use Rattle.diversions.proofs.Turning.{goes_here}
use Rattle.dpkg_session.proofs.TableUnits.{one_unit}
use Rattle.dpkg_session.proofs.undiverting.undivert_on.Goals as goal

pub returns-clause-whole : goal.returns-clause-whole
returns-clause-whole g c = one_unit _ c.remove_unit-unit.result c.report_of.result c.report_of.ensures c.remove_unit-unit.ensures.unit

pub returns-then-is_err-clause-turns : goal.returns-then-is_err-clause-turns
returns-then-is_err-clause-turns g c = goes_here _
