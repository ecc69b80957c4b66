use Rattle.std.proofs.Common.{rules}
use Rattle.unit_reports.proofs.units.is_broken.Goals as goal

pub returns-in-Refused : goal.returns-in-Refused
returns-in-Refused c = search rules
