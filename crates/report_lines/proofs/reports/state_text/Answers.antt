use Rattle.std.proofs.Common.{rules}
use Rattle.report_lines.proofs.reports.state_text.Goals as goal

pub returns-in-Some : goal.returns-in-Some
returns-in-Some c = search rules
