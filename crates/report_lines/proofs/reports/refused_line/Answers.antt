use Rattle.std.proofs.Common.{rules}
use Rattle.report_lines.proofs.reports.refused_line.Goals as goal

pub returns : goal.returns
returns c = search rules
