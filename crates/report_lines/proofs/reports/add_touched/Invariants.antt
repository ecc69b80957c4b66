use Rattle.std.proofs.Common.{◌≡◌, ◌++◌, take, string_bytes}
use Rattle.std.specs.List.{flat_map}
use Rattle.report_lines.specs.States.{state_line}
use Rattle.report_lines.proofs.reports.add_touched.Given as goal

abbrev pub invariant-loop-touched : goal.invariant-loop-touched
invariant-loop-touched l = string_bytes l.lines ≡ string_bytes l.initial.lines ++ flat_map state_line (take l.touched-index l.packages)
