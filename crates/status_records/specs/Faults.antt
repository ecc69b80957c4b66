-- What a reader of the status file's text tells.
use Rattle.std.specs.Prelude.{◌≡◌, ℕ, List, [], Option}
use Rattle.control_fields.specs.Spelling.{AreFields}
use Rattle.control_fields.specs.declared.located.Located.{Located}
use Rattle.control_fields.specs.declared.fault.ControlFault.{ControlFault}
use Rattle.status_records.specs.declared.reading.StatusFault.{StatusFault}
use Rattle.status_records.specs.declared.reading.StatusFault.TheVariants.{Line, NoMemory}
use Rattle.status_records.specs.Damage.{HasLines, IsFaultyEntry, IsFaultAmong, IsFaultyEnd, IsFirstFault}

-- a paragraph as the control grammar gives it
pub record IsSound (l : Located) : Type 0 where
  pub lines : HasLines l
  pub written : ∥ AreFields [] l.paragraph ∥₁

abbrev pub IsEntryFault : List (List ℕ) → Located → StatusFault → Type 0
IsEntryFault names l (Line line) = IsFaultyEntry names l line
IsEntryFault names l NoMemory = Unit {0}

abbrev pub IsTableFault : List Located → StatusFault → Type 0
IsTableFault paragraphs (Line line) = IsFaultAmong paragraphs line
IsTableFault paragraphs NoMemory = Unit {0}

-- what is told of the paragraph that the grammar's fault broke off, and of that fault
abbrev pub IsEndFault : Located → Option ControlFault → StatusFault → Type 0
IsEndFault begun fault (Line line) = IsFaultyEnd begun fault line
IsEndFault begun fault NoMemory = Unit {0}

abbrev pub IsTextFault : List ℕ → StatusFault → Type 0
IsTextFault text (Line line) = IsFirstFault text line
IsTextFault text NoMemory = Unit {0}
