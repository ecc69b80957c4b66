-- Why a unit isn't begun.
use Rattle.unit_reports.specs.declared.report.Breakage.{Breakage}
use Rattle.unit_reports.specs.declared.report.Breakage.TheVariants as breakage
use Rattle.unit_runs.specs.declared.barring.Bar.{Bar}
use Rattle.unit_runs.specs.declared.barring.Bar.TheVariants.{NoRoom, Abandoned}

-- what it is broken off for
abbrev pub breakage_by : Bar → Breakage
breakage_by NoRoom = breakage.NoMemory
breakage_by Abandoned = breakage.Abandoned
