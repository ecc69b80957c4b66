-- The parts of the administration in the order in which they are read, and what is wrong with one that can't be.
use Rattle.std.specs.Prelude.{◌≡◌, ◌⊎◌, ℕ, Bool, true, false, List, [], ◌∷◌, ◌++◌, Option, Some, None, map, Result, Ok, Err}
use Rattle.std.specs.List.{AllByRecursion, list_any}
use Rattle.host_core.specs.Paths.{Path}
use Rattle.host_core.specs.World.{World, IsDirectory, IsLoose, SameOn}
use Rattle.administration.specs.Places.{home_path, info_path, status_path, diversions_path, updates_path, tmp_path, temporary, is_within}
use Rattle.administration.specs.Directories.{HasBadName}
use Rattle.administration.specs.Files.{NoDirectory}
use Rattle.administration.specs.Least.{IsLeastIn}
use Rattle.administration.specs.declared.fault.AdministrationFault.{AdministrationFault}
use Rattle.administration.specs.declared.fault.AdministrationFault.TheVariants.{Damaged, Device, NoMemory, Declined}
use Rattle.diversions.specs.declared.entry.Diversion.{Diversion}
use Rattle.diversions.specs.Lines.{HasDiversions, IsDiversionsDamage}
use Rattle.file_lists.specs.Info.{IsInfoDamage, AreSound}
use Rattle.info_format.specs.Stage.{AreDamaged, AreDone, IsNaming}
use Rattle.status_records.specs.declared.record.Record.{Record}
use Rattle.status_records.specs.Records.{standing}
use Rattle.status_db.specs.NoteDamage.{AreNotesFine, AreRecordsDamaged}
use Rattle.status_db.specs.Noting.{IsMerging}
use Rattle.status_db.specs.Held.{HasRecords}
use Rattle.status_db.specs.declared.record_fault.RecordFault.{RecordFault}
use Rattle.status_db.specs.declared.record_fault.RecordFault.TheVariants as fault
use Rattle.opening.specs.Leaving.{IsOpening, HasMadeWays, root_path, var_path, lib_path}

-- the names of packages that have a record
abbrev pub names_of : List Record → List (List ℕ)
names_of records = map (λ r. r.name) records

pub data Part : Type 0 where
  Root : Part
  -- a directory of the administration, or one above it
  Way : (path : Path) → Part
  -- the status file, and the notes over it
  Records : Part
  -- the name at which a file is written before it is renamed to its place
  Spare : (path : Path) → Part
  -- file lists and stored scripts
  Info : Part
  Diversions : Part
  -- what a unit that was broken off left behind
  Leftovers : Part

abbrev pub parts : List Part
parts = Root ∷ Way var_path ∷ Way lib_path ∷ Way home_path ∷ Records ∷ Spare (temporary status_path) ∷ Way updates_path ∷ Way info_path ∷ Info ∷ Diversions ∷ Spare (temporary diversions_path) ∷ Leftovers ∷ []

-- the status file and the notes stand for these records, each of a package that isn't gone
pub record IsTable (w : World) (table : List Record) : Type 0 where
  pub records : HasRecords w table
  pub standing : standing table ≡ table

-- what is in `info` can be read, for the packages that have a record
pub record IsReadableInfo (w : World) : Type 0 where
  pub table : List Record
  pub is_table : IsTable w table
  pub text : HasBadName w info_path → ⊥
  pub sound : AreSound w (names_of table)

-- a part that can be read
abbrev pub IsFine : World → Part → Type 0
IsFine w Root = IsDirectory (w root_path)
IsFine w (Way path) = IsDirectory (w path)
IsFine w Records = AreNotesFine w × ((table : List Record) × IsTable w table)
IsFine w (Spare path) = NoDirectory (w path)
IsFine w Info = IsReadableInfo w
IsFine w Diversions = (entries : List Diversion) × HasDiversions w entries
IsFine w Leftovers = w tmp_path ≡ None

-- `tmp.ci` is no directory or has a name in it that isn't text; else the first directory in it
abbrev pub IsLeftoversFault : World → Path → Type 0
IsLeftoversFault w file =
    ((file ≡ tmp_path) × (IsLoose (w tmp_path) ⊎ HasBadName w tmp_path)) ⊎ ((HasBadName w tmp_path → ⊥) × ((name : Path) × (file ≡ tmp_path ++ 47 ∷ name) × IsLeastIn IsDirectory w tmp_path name))

-- a part that can't be read, by the file and the line that are told; a directory that is missing is made
abbrev pub IsFaulty : World → Part → Path → ℕ → Type 0
IsFaulty w Root file line = (file ≡ root_path) × (line ≡ 0) × NoDirectory (w root_path)
IsFaulty w (Way path) file line = (file ≡ path) × (line ≡ 0) × IsLoose (w path)
IsFaulty w Records file line = AreRecordsDamaged w file line
IsFaulty w (Spare path) file line = (file ≡ path) × (line ≡ 0) × IsDirectory (w path)
IsFaulty w Info file line = (table : List Record) × IsTable w table × IsInfoDamage w (names_of table) (Damaged file line)
IsFaulty w Diversions file line = IsDiversionsDamage w (Damaged file line)
IsFaulty w Leftovers file line = (line ≡ 0) × IsLeftoversFault w file

-- among these parts the first that can't be read
abbrev pub IsFirstFault : List Part → World → Path → ℕ → Type 0
IsFirstFault [] w file line = ⊥
IsFirstFault (part ∷ rest) w file line = IsFaulty w part file line ⊎ (IsFine w part × IsFirstFault rest w file line)

-- why these parts can't be read
abbrev pub IsDamage : List Part → World → AdministrationFault → Type 0
IsDamage among w (Damaged file line) = IsFirstFault among w file line
IsDamage among w Device = Unit {0}
IsDamage among w NoMemory = Unit {0}
IsDamage among w Declined = Unit {0}

-- what reading these parts came to: all are fine, or the fault is that of the first that isn't
abbrev pub Finds : List Part → World → Option AdministrationFault → Type 0
Finds among w None = AllByRecursion (IsFine w) among
Finds among w (Some fault) = IsDamage among w fault

abbrev pub fault_in : {T : Type 0} → Result T AdministrationFault → Option AdministrationFault
fault_in (Ok value) = None
fault_in (Err fault) = Some fault

abbrev pub is_leftovers : Part → Bool
is_leftovers Root = false
is_leftovers (Way path) = false
is_leftovers Records = false
is_leftovers (Spare path) = false
is_leftovers Info = false
is_leftovers Diversions = false
is_leftovers Leftovers = true

abbrev pub IsDamaged : Option AdministrationFault → Type 0
IsDamaged None = ⊥
IsDamaged (Some (Damaged file line)) = Unit {0}
IsDamaged (Some Device) = ⊥
IsDamaged (Some NoMemory) = ⊥
IsDamaged (Some Declined) = ⊥

-- what a unit left behind stays: parts before it were opened, or damage was told
abbrev pub SparesLeftovers : List Part → Option AdministrationFault → Type 0
SparesLeftovers among fault = (list_any is_leftovers among ≡ false) ⊎ IsDamaged fault

-- these parts were opened up to this fault
pub record Opens (among : List Part) (fault : Option AdministrationFault) (old new : World) : Type 0 where
  pub changes : IsOpening old new
  pub finds : Finds among new fault
  pub made : (fault ≡ Some Device → ⊥) → HasMadeWays old new
  pub left : SparesLeftovers among fault → SameOn (is_within tmp_path) old new

-- after all was read, the notes were merged into the status file, or that was broken off, which is never damage
pub record HasMerged (fault : Option AdministrationFault) (read new : World) : Type 0 where
  pub sound : IsDamaged fault → ⊥
  pub table : List Record
  pub records : HasRecords read table
  pub merging : IsMerging table read new

-- what was told of the reading is told, and nothing was merged
abbrev pub Merges : Option AdministrationFault → Option AdministrationFault → World → World → Type 0
Merges (Some found) fault read new = (fault ≡ Some found) × (new ≡ read)
Merges None fault read new = HasMerged fault read new

-- all parts were opened, and after them the notes were merged
pub record ReadsAndMerges (fault : Option AdministrationFault) (old new : World) : Type 0 where
  pub read : World
  pub found : Option AdministrationFault
  pub opens : Opens parts found old read
  pub merges : Merges found fault read new

-- what bringing names in `info` to format 0 came to
abbrev pub HasNames : Option AdministrationFault → World → World → Type 0
HasNames None old new = AreDone old new
HasNames (Some fault) old new = IsNaming old new × AreDamaged old fault

-- what was told of it is told, and nothing else was done; else all parts were opened
abbrev pub GoesOn : Option AdministrationFault → Option AdministrationFault → World → World → Type 0
GoesOn (Some first) fault begun new = (fault ≡ Some first) × (new ≡ begun)
GoesOn None fault begun new = ReadsAndMerges fault begun new

-- names in `info` were brought to format 0, then all parts were opened, and after them the notes were merged
pub record OpensAndMerges (fault : Option AdministrationFault) (old new : World) : Type 0 where
  pub begun : World
  pub first : Option AdministrationFault
  pub names : HasNames first old begun
  pub goes : GoesOn first fault begun new

-- a fault of the records, as one of the administration; closed ones are never merged
abbrev pub told : RecordFault → AdministrationFault
told fault.Device = Device
told fault.NoMemory = NoMemory
told fault.Closed = NoMemory
told fault.Declined = Declined
