-- What a reader of notes tells.
use Rattle.std.specs.Prelude.{◌≡◌, ℕ, List, Option}
use Rattle.host_core.specs.Paths.{Path}
use Rattle.host_core.specs.declared.node.Node.{Node}
use Rattle.administration.specs.declared.fault.AdministrationFault.{AdministrationFault}
use Rattle.administration.specs.declared.fault.AdministrationFault.TheVariants as administration
use Rattle.control_fields.specs.declared.located.Located.{Located}
use Rattle.control_fields.specs.declared.fault.ControlFault.{ControlFault}
use Rattle.status_records.specs.declared.reading.StatusFault.{StatusFault}
use Rattle.status_records.specs.declared.reading.StatusFault.TheVariants.{Line, NoMemory}
use Rattle.status_db.specs.NoteDamage.{IsFaultyRest, IsFaultyStart, IsNoteDamage, IsNoteFault}

-- what is told of a note's text: where it has no whole paragraph, where more stands behind the first, and of the whole
abbrev pub IsStartFault : Located → Option ControlFault → StatusFault → Type 0
IsStartFault begun fault (Line line) = IsFaultyStart begun fault line
IsStartFault begun fault NoMemory = Unit {0}

abbrev pub IsRestFault : List Located → Located → Option ControlFault → StatusFault → Type 0
IsRestFault rest begun fault (Line line) = IsFaultyRest rest begun.line begun.paragraph fault line
IsRestFault rest begun fault NoMemory = Unit {0}

abbrev pub IsNoteTextFault : List ℕ → StatusFault → Type 0
IsNoteTextFault text (Line line) = IsNoteFault text line
IsNoteTextFault text NoMemory = Unit {0}

-- why no note is read of what stands at a path; the device has no part in it, and nothing was to be done that it could decline
abbrev pub IsNoteFileFault : Path → Option Node → AdministrationFault → Type 0
IsNoteFileFault path found (administration.Damaged file line) = (file ≡ path) × IsNoteDamage found line
IsNoteFileFault path found administration.Device = ⊥
IsNoteFileFault path found administration.NoMemory = Unit {0}
IsNoteFileFault path found administration.Declined = ⊥
