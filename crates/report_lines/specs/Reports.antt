-- The lines of a report, and the status that it ends with.
use Rattle.std.specs.Prelude.{ℕ, List, [], ◌∷◌, ◌++◌, max, option_to_list, if◌then◌else◌}
use Rattle.std.specs.List.{flat_map}
use Rattle.unit_reports.specs.declared.report.Report.{Report}
use Rattle.unit_reports.specs.declared.report.Unit.{Unit as AUnit}
use Rattle.report_lines.specs.Calls.{call_line}
use Rattle.report_lines.specs.Replies.{reply_line, reply_status, tells_states}
use Rattle.report_lines.specs.States.{state_line}

-- the states of the touched packages
abbrev pub states_lines : AUnit → List ℕ
states_lines u = if tells_states u.reply then flat_map state_line u.touched.items else []

-- a unit: its calls, then the touched packages, then the reply
abbrev pub unit_lines : AUnit → List ℕ
unit_lines u = flat_map call_line u.calls.items ++ (states_lines u ++ reply_line u.reply)

-- the units, and after them the one that was broken off
abbrev pub report_lines : Report → List ℕ
report_lines r = flat_map unit_lines r.units.items ++ flat_map unit_lines (option_to_list r.last)

-- the greatest status of units
abbrev pub units_status : List AUnit → ℕ
units_status [] = 0
units_status (u ∷ us) = max (reply_status u.reply) (units_status us)

-- 0 where all is done, 1 where something was refused or failed or units were abandoned, 2 where a unit was broken off
abbrev pub report_status : Report → ℕ
report_status r = max (units_status r.units.items) (units_status (option_to_list r.last))
