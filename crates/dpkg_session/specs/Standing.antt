-- What a session knows of its host's administration.
use Rattle.std.specs.Prelude.{◌≡◌, ◌<◌, ℕ, true, IsTrue, List, Option, None, Err}
use Rattle.host_core.specs.World.{World, is_directory}
use Rattle.host_core.specs.Host.{State}
use Rattle.administration.specs.Directories.{HasBadName}
use Rattle.administration.specs.Fault.{CountsAdministration}
use Rattle.administration.specs.declared.fault.AdministrationFault.{AdministrationFault}
use Rattle.administration.specs.Places.{home_path, info_path, status_path, updates_path, diversions_path, tmp_path, temporary}
use Rattle.administration.specs.Files.{NoDirectory}
use Rattle.diversions.specs.Lines.{HasDiversions}
use Rattle.diversions.specs.Ways.{Ways}
use Rattle.file_lists.specs.Info.{AreLoose}
use Rattle.file_lists.specs.Lists.{HasLists}
use Rattle.file_lists.specs.declared.paths.PackageList.{PackageList}
use Rattle.opening.specs.Parts.{names_of}
use Rattle.opening.specs.TakenUp.{IsTakenUp, OpensAndAdopts}
use Rattle.status_db.specs.Held.{HasRecords, IsFree}
use Rattle.status_db.specs.Notes.{limit, note_path}
use Rattle.status_db.specs.Recorded.{Recorded}
use Rattle.status_records.specs.declared.record.Record.{Record}
use Rattle.unit_reports.specs.Held.{Held}

-- the records are those that stand there, nothing is in the way of a note or of the status file, and no note has the number
-- of the next one or a greater
abbrev pub AreRecorded : Recorded → World → Type 0
AreRecorded d w =
    (is_directory (w home_path) ≡ true)
    × (is_directory (w updates_path) ≡ true)
    × (HasBadName w updates_path → ⊥)
    × NoDirectory (w (temporary status_path))
    × ((n : ℕ) → n < limit → NoDirectory (w (temporary (note_path n))))
    × HasRecords w d.records
    × IsFree d.notes w

-- The administration is in order, as `IsOpened` says it, these are its records, the lists of their packages, and its
-- diversions. Each part of it has one proof at most, so that a session can keep it.
abbrev pub IsStanding : Held → World → Type 0
IsStanding h w =
    AreRecorded h.records w
    × (is_directory (w info_path) ≡ true)
    × AreLoose w
    × NoDirectory (w diversions_path)
    × NoDirectory (w (temporary diversions_path))
    × (w tmp_path ≡ None)
    × ∥ HasLists w (names_of h.records.records) h.lists ∥₁
    × ∥ HasDiversions w h.ways.entries ∥₁

-- all parts of it were opened up to this fault, the notes merged, and what another program left unsettled taken up, so far as the host was
-- honest
abbrev pub OpensAll : Option AdministrationFault → State → State → Type 0
OpensAll fault old new = IsTrue new.honest → OpensAndAdopts fault old.world new.world

-- these are its records as they were taken up, by the places to which paths led
abbrev pub TakesUpAll : List Record → List PackageList → Ways → State → State → Type 0
TakesUpAll table lists ways old new = IsTrue new.honest → IsTakenUp table lists ways old.world new.world

-- it is refused for a device fault exactly where the device failed
abbrev pub CountsRefusal : AdministrationFault → State → State → Type 0
CountsRefusal fault old new = CountsAdministration {T = Unit {0}} old new (Err fault)
