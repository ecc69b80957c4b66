-- What is wrong with noted records: the first faulty line of a note, or a directory in its way.
use Rattle.std.specs.Prelude.{◌≡◌, ◌⊎◌, ◌<◌, ℕ, List, [], ◌∷◌, Option, Some, None}
use Rattle.std.specs.List.{AllByRecursion}
use Rattle.host_core.specs.Paths.{Path}
use Rattle.host_core.specs.World.{World, IsDirectory}
use Rattle.host_core.specs.declared.node.Node.{Node}
use Rattle.host_core.specs.declared.node.Node.TheVariants.{File, Dir, Link}
use Rattle.administration.specs.Places.{status_path, updates_path, temporary}
use Rattle.administration.specs.Directories.{HasBadName}
use Rattle.administration.specs.Files.{NoDirectory}
use Rattle.administration.specs.declared.fault.AdministrationFault.{AdministrationFault}
use Rattle.administration.specs.declared.fault.AdministrationFault.TheVariants.{Damaged, Device, NoMemory, Declined}
use Rattle.control_fields.specs.Grammar.{lines_of}
use Rattle.control_fields.specs.Faults.{IsReadTo}
use Rattle.control_fields.specs.declared.field.Field.{Field}
use Rattle.control_fields.specs.declared.located.Located.{Located}
use Rattle.control_fields.specs.declared.fault.ControlFault.{ControlFault}
use Rattle.status_records.specs.Damage.{IsBadField, IsFaultyEntry, line_in}
use Rattle.status_db.specs.Notes.{IsNoteAt, Note, limit, note_path}
use Rattle.status_records.specs.Paragraphs.{IsEntry}
use Rattle.status_records.specs.Status.{IsDamageAt, IsStatusAt}
use Rattle.status_records.specs.Values.{IsReadable}
use Rattle.status_records.specs.declared.record.Record.{Record}

-- the line that a fault of the grammar tells, or the first where the text has no field
abbrev pub end_line : Option ControlFault → ℕ
end_line None = 1
end_line (Some fault) = line_in fault

-- a text without a whole paragraph: a field of the one that the grammar's fault broke off, or that fault's line
abbrev pub IsFaultyStart : Located → Option ControlFault → ℕ → Type 0
IsFaultyStart begun fault line = IsBadField begun line ⊎ (AllByRecursion IsReadable begun.paragraph × (line ≡ end_line fault))

-- behind the first paragraph: the first line of a second one, or that of the grammar's fault
abbrev pub IsFaultyRest : List Located → ℕ → List Field → Option ControlFault → ℕ → Type 0
IsFaultyRest (second ∷ rest) begun fields fault line = line ≡ second.line
IsFaultyRest [] begun (field ∷ fields) fault line = line ≡ begun
IsFaultyRest [] begun [] fault line = (f : ControlFault) × (fault ≡ Some f) × (line ≡ line_in f)

-- a text that is to be one paragraph
abbrev pub IsFaultyNote : List Located → Located → Option ControlFault → ℕ → Type 0
IsFaultyNote [] begun fault line = IsFaultyStart begun fault line
IsFaultyNote (first ∷ rest) begun fault line =
    IsFaultyEntry [] first line ⊎ (((name : List ℕ) × (kept : List Record) × IsEntry [] first.paragraph name kept) × IsFaultyRest rest begun.line begun.paragraph fault line)

-- this line of a note's text is its first faulty one
pub record IsNoteFault (text : List ℕ) (line : ℕ) : Type 0 where
  pub paragraphs : List Located
  pub begun : Located
  pub fault : Option ControlFault
  pub read : IsReadTo (lines_of text) paragraphs begun fault
  pub told : IsFaultyNote paragraphs begun fault line

-- why no note is read of a node: a faulty line, or line 0 where it is no file
abbrev pub IsNoteDamage : Option Node → ℕ → Type 0
IsNoteDamage None line = ⊥
IsNoteDamage (Some (File bytes access)) line = IsNoteFault bytes line
IsNoteDamage (Some (Dir access)) line = line ≡ 0
IsNoteDamage (Some (Link target)) line = line ≡ 0

-- there is a note of this number, or none, and no directory where it is written aside
pub record IsFineNumber (w : World) (n : ℕ) : Type 0 where
  pub note : Option Note
  pub is : IsNoteAt (w (note_path n)) note
  pub spare : NoDirectory (w (temporary (note_path n)))

-- the note of this number is faulty, or it is read, and a directory stands where it is written aside
abbrev pub IsFaultyNumber : World → ℕ → Path → ℕ → Type 0
IsFaultyNumber w n file line = ((file ≡ note_path n) × IsNoteDamage (w (note_path n)) line)
    ⊎ (((note : Option Note) × IsNoteAt (w (note_path n)) note) × (file ≡ temporary (note_path n)) × (line ≡ 0) × IsDirectory (w (temporary (note_path n))))

-- the first number with a fault
pub record IsFirstFaultyNumber (w : World) (file : Path) (line : ℕ) : Type 0 where
  pub number : ℕ
  pub within : number < limit
  pub before : (n : ℕ) → n < number → IsFineNumber w n
  pub here : IsFaultyNumber w number file line

-- a name that isn't text is looked for first, and told with the directory's path
abbrev pub AreNotesDamaged : World → Path → ℕ → Type 0
AreNotesDamaged w file line = (HasBadName w updates_path × (file ≡ updates_path) × (line ≡ 0)) ⊎ ((HasBadName w updates_path → ⊥) × IsFirstFaultyNumber w file line)

-- all notes can be read
pub record AreNotesFine (w : World) : Type 0 where
  pub text : HasBadName w updates_path → ⊥
  pub each : (n : ℕ) → n < limit → IsFineNumber w n

-- the status file can be read
abbrev pub IsStatusRead : World → Type 0
IsStatusRead w = ∥ ((base : List Record) × IsStatusAt (w status_path) base) ∥₁

-- why the records can't be read: the status file is faulty, or it is read, and the notes are
abbrev pub AreRecordsDamaged : World → Path → ℕ → Type 0
AreRecordsDamaged w file line = ((file ≡ status_path) × IsDamageAt (w status_path) line) ⊎ (IsStatusRead w × AreNotesDamaged w file line)

abbrev pub IsRecordsDamage : World → AdministrationFault → Type 0
IsRecordsDamage w (Damaged file line) = AreRecordsDamaged w file line
IsRecordsDamage w Device = Unit {0}
IsRecordsDamage w NoMemory = Unit {0}
IsRecordsDamage w Declined = Unit {0}
