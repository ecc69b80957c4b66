use Rattle.std.proofs.Common.{rules}
use Rattle.report_lines.proofs.reports.outcome_text.Goals as goal

pub returns-in-Killed : goal.returns-in-Killed
returns-in-Killed c = search rules
