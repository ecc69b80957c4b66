-- How a command ends behind its units.
use Rattle.std.specs.Prelude.{◌≡◌, ◌<◌, IsNone, IsTrue, Option, Some, None, Err}
use Rattle.host_core.specs.Host.{AtEachMoment, Counts, NoFault, Silent, State}
use Rattle.host_core.specs.Loss.{IsAnswered}
use Rattle.host_core.specs.declared.fault.HostFault.{HostFault}
use Rattle.report_lines.specs.Notes.{notes_line}
use Rattle.status_db.specs.Noting.{AreMerged, AreNoted, IsMerging}
use Rattle.status_db.specs.Recorded.{Recorded}
use Rattle.unit_reports.specs.declared.report.Unit.{Unit as AUnit}
use Rattle.command_line.specs.declared.answer.Answer.{Answer}

-- a fault is told exactly where the device failed, or a step was declined, or memory was wanting
abbrev pub CountsNotes : State → State → Option HostFault → Type 0
CountsNotes s end None = NoFault s end
CountsNotes s end (Some fault) = Counts {T = Unit {0}} s end (Err fault)

-- All notes were merged: none stands any more, the status file has the records, and all of it is on the disk; where none stood
-- nothing was done. Or that was broken off for this fault; at each moment the next opening finds the same records.
pub record HasMerged (before : Recorded) (left : Option HostFault) (s end : State) : Type 0 where
  pub merged : IsNone left → IsTrue end.honest → AreNoted before.records 0 s.world end.world
  pub written : IsNone left → 0 < before.notes → IsTrue end.honest → AreMerged before.records s.world end.world
  pub none : before.notes ≡ 0 → (left ≡ None) × (end ≡ s)
  pub answered : IsNone left → IsAnswered s end
  pub any_moment : AtEachMoment (IsMerging before.records) s end
  pub silent : Silent s end
  pub counts : CountsNotes s end left

-- Behind the units, the last of which may have been broken off, the notes are merged, unless this fault left them; behind a unit
-- that was broken off they stay as they are, and none is told.
abbrev pub HasEnded : Option AUnit → Recorded → Option HostFault → State → State → Type 0
HasEnded None before left s end = HasMerged before left s end
HasEnded (Some broken) before left s end = (left ≡ None) × (end ≡ s)

-- the answer on units, where notes that are left behind them are told on standard error
abbrev pub with_notes : Option HostFault → Answer → Answer
with_notes None answer = answer
with_notes (Some fault) answer = record { output = answer.output; error = notes_line fault; status = 2 }
