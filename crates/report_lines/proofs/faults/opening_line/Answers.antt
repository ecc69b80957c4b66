use Rattle.std.proofs.Common.{rules}
use Rattle.report_lines.proofs.faults.opening_line.Goals as goal

pub returns-in-Device : goal.returns-in-Device
returns-in-Device c = search rules
