-- The notes are read one after another, by their numbers.
use Rattle.std.specs.Prelude.{◌≡◌, ◌<◌, ◌≤◌, ℕ, Bool, false, List, ◌+◌, ◌++◌, Option, None, Contains, length, get_or}
use Rattle.host_core.specs.Paths.{Path}
use Rattle.host_core.specs.World.{World, IsDirectory}
use Rattle.administration.specs.Places.{updates_path, temporary}
use Rattle.administration.specs.Directories.{HasBadName}
use Rattle.administration.specs.Files.{NoDirectory}
use Rattle.administration.specs.declared.fault.AdministrationFault.{AdministrationFault}
use Rattle.administration.specs.declared.fault.AdministrationFault.TheVariants.{Damaged, Device, NoMemory, Declined}
use Rattle.status_db.specs.NoteDamage.{AreNotesDamaged, IsFaultyNumber, IsFirstFaultyNumber, IsNoteDamage}
use Rattle.status_db.specs.Notes.{IsNoteAt, Note, digits, entered, note_path, with_notes}
use Rattle.status_records.specs.Records.{record_in}
use Rattle.status_records.specs.declared.record.Record.{Record}

-- a number that isn't marked is that of no name among these, whatever follows its digits
pub record HasMarks (marks : List Bool) (names : List Path) : Type 0 where
  pub all : length marks ≡ 10000
  pub none : (n : ℕ) (tail : List ℕ) → n < 10000 → get_or marks n false ≡ false → Contains names (digits n ++ tail) → ⊥

-- there is no note of this number, and nothing where one is written aside
abbrev pub HasNone : ℕ → World → Type 0
HasNone n w = (w (note_path n) ≡ None) × (w (temporary (note_path n)) ≡ None)

-- where a number isn't marked there is no note of it, and nothing where one is written aside
pub record AreMarked (marks : List Bool) (w : World) : Type 0 where
  pub all : length marks ≡ 10000
  pub none : (n : ℕ) → n < 10000 → get_or marks n false ≡ false → HasNone n w

-- a table took the note of a number
pub record IsNumberTaken (w : World) (n : ℕ) (before after : List Record) : Type 0 where
  pub note : Option Note
  pub is : IsNoteAt (w (note_path n)) note
  pub spare : NoDirectory (w (temporary (note_path n)))
  pub each : (name : List ℕ) → record_in after name ≡ entered note (record_in before) name

-- a table took the notes below a number; none of them has this count or a greater
pub record AreNumbersTaken (w : World) (count number : ℕ) (before after : List Record) : Type 0 where
  pub notes : ℕ → Option Note
  pub are : (n : ℕ) → n < number → IsNoteAt (w (note_path n)) (notes n)
  pub spares : (n : ℕ) → n < number → NoDirectory (w (temporary (note_path n)))
  pub each : (name : List ℕ) → record_in after name ≡ with_notes notes number (record_in before) name
  pub free : (n : ℕ) → count ≤ n → n < number → w (note_path n) ≡ None
  pub within : count ≤ number

-- one number more was taken
abbrev pub IsNext : World → ℕ → ℕ → ℕ → List Record → List Record → Type 0
IsNext w number count next mid after = (before : List Record) → AreNumbersTaken w count number before mid → AreNumbersTaken w next (number + 1) before after

-- why a note isn't read, by what is told
abbrev pub IsFileDamage : World → Path → AdministrationFault → Type 0
IsFileDamage w path (Damaged file line) = (file ≡ path) × IsNoteDamage (w path) line
IsFileDamage w path Device = Unit {0}
IsFileDamage w path NoMemory = Unit {0}
IsFileDamage w path Declined = Unit {0}

abbrev pub IsSpareDamage : World → Path → AdministrationFault → Type 0
IsSpareDamage w path (Damaged file line) = (file ≡ path) × (line ≡ 0) × IsDirectory (w path)
IsSpareDamage w path Device = Unit {0}
IsSpareDamage w path NoMemory = Unit {0}
IsSpareDamage w path Declined = Unit {0}

abbrev pub IsNumberDamage : World → ℕ → AdministrationFault → Type 0
IsNumberDamage w n (Damaged file line) = IsFaultyNumber w n file line
IsNumberDamage w n Device = Unit {0}
IsNumberDamage w n NoMemory = Unit {0}
IsNumberDamage w n Declined = Unit {0}

abbrev pub IsNumbersDamage : World → AdministrationFault → Type 0
IsNumbersDamage w (Damaged file line) = IsFirstFaultyNumber w file line
IsNumbersDamage w Device = Unit {0}
IsNumbersDamage w NoMemory = Unit {0}
IsNumbersDamage w Declined = Unit {0}

abbrev pub IsNameDamage : World → AdministrationFault → Type 0
IsNameDamage w (Damaged file line) = HasBadName w updates_path × (file ≡ updates_path) × (line ≡ 0)
IsNameDamage w Device = Unit {0}
IsNameDamage w NoMemory = Unit {0}
IsNameDamage w Declined = Unit {0}

abbrev pub IsNotesDamage : World → AdministrationFault → Type 0
IsNotesDamage w (Damaged file line) = AreNotesDamaged w file line
IsNotesDamage w Device = Unit {0}
IsNotesDamage w NoMemory = Unit {0}
IsNotesDamage w Declined = Unit {0}
