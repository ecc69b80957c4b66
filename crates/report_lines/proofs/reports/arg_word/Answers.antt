use Rattle.std.proofs.Common.{rules}
use Rattle.report_lines.proofs.reports.arg_word.Goals as goal

pub returns-in-empty : goal.returns-in-empty
returns-in-empty c = search rules
