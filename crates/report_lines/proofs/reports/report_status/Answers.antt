use Rattle.std.proofs.Common.{rules}
use Rattle.report_lines.proofs.reports.report_status.Goals as goal

pub returns-in-Some-clause-value : goal.returns-in-Some-clause-value
returns-in-Some-clause-value c = search rules
