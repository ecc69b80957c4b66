-- When a declined step of the files may be told.
use Rattle.std.specs.Prelude.{◌≡◌, ◌<◌, true, Option}
use Rattle.host_core.specs.Host.{State, denials}
use Rattle.undo_rows.specs.declared.fall.StepFault.{StepFault}
use Rattle.undo_rows.specs.Place.{is_declined}

-- a declined step is told only where a step was declined since
abbrev pub OnlyIfDeclined : Option StepFault → State → State → Type 0
OnlyIfDeclined fault old new = is_declined fault ≡ true → denials old < denials new
