use Rattle.std.proofs.Common.{◌≡◌, ◌≤◌, take}
use Rattle.report_lines.specs.Reports.{units_status}
use Rattle.report_lines.proofs.reports.units_status.Given as goal

abbrev pub invariant-loop-unit : goal.invariant-loop-unit
invariant-loop-unit l = record {
  value : l.status ≡ units_status (take l.unit-index l.units);
  bound : l.status ≤ 2;
}
