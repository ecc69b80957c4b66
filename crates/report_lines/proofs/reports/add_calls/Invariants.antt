use Rattle.std.proofs.Common.{◌≡◌, ◌++◌, take, string_bytes}
use Rattle.std.specs.List.{flat_map}
use Rattle.report_lines.specs.Calls.{call_line}
use Rattle.report_lines.proofs.reports.add_calls.Given as goal

abbrev pub invariant-loop-called : goal.invariant-loop-called
invariant-loop-called l = string_bytes l.lines ≡ string_bytes l.initial.lines ++ flat_map call_line (take l.called-index l.calls)
