use Rattle.std.proofs.Common.{◌≡◌, ◌++◌, take, string_bytes}
use Rattle.std.specs.List.{flat_map}
use Rattle.report_lines.specs.Reports.{unit_lines}
use Rattle.report_lines.proofs.reports.add_units.Given as goal

abbrev pub invariant-loop-unit : goal.invariant-loop-unit
invariant-loop-unit l = string_bytes l.lines ≡ string_bytes l.initial.lines ++ flat_map unit_lines (take l.unit-index l.units)
