-- What is left of the files of interests, in the end and at each moment.
use Rattle.std.specs.Prelude.{◌≡◌, ◌≢◌, ◌⊎◌, ◌&&◌, ◌||◌, not, ℕ, Bool, true, false, if◌then◌else◌, MatchBool, List, Option, Some, None}
use Rattle.administration.specs.Places.{temporary}
use Rattle.host_core.specs.Paths.{Path}
use Rattle.host_core.specs.World.{World, IsLoose, is_directory, kind_of}
use Rattle.host_core.specs.declared.node.Kind.{Kind}
use Rattle.host_core.specs.declared.node.Kind.TheVariants.{File, Directory, SymbolicLink}
use Rattle.host_core.specs.declared.node.Node.{Node}
use Rattle.status_records.specs.declared.record.Record.{Record}
use Rattle.trigger_interests.specs.declared.interests.Interest.{Interest}
use Rattle.trigger_journal.specs.Places.{triggers_directory}
use Rattle.trigger_files.specs.Entries.{entries_of}
use Rattle.trigger_files.specs.Lines.{file_of, is_settled, lines_for}
use Rattle.trigger_files.specs.Places.{is_register, place}

-- what is left alone
abbrev pub is_in_way : Option Kind → Bool
is_in_way None = false
is_in_way (Some File) = false
is_in_way (Some Directory) = true
is_in_way (Some SymbolicLink) = true

-- no file can be written: a directory or link stands there, or a directory where it is written aside
abbrev pub is_hindered : World → Path → Bool
is_hindered w path = is_in_way (kind_of (w path)) || is_directory (w (temporary path))

-- what stands at the place of a name hasn't the lines that belong there
abbrev pub is_unsettled : List Interest → World → List ℕ → Bool
is_unsettled entries w name = not (is_settled (lines_for entries name) (w (place name)))

-- the file of a name is to be written or to go, since there is the directory of these files
abbrev pub is_due : List Interest → World → List ℕ → Bool
is_due entries w name = is_directory (w triggers_directory) && is_unsettled entries w name

-- what stands there in the end: what it is to be where it is due and can be written, else what stood there
abbrev pub left_at : List Interest → World → List ℕ → Option Node
left_at entries w name = if is_due entries w name && not (is_hindered w (place name)) then file_of (lines_for entries name) else w (place name)

-- a path is none of these files, and no temporary name of one
abbrev pub IsBesideRegisters : Path → Type 0
IsBesideRegisters q = (name : List ℕ) → is_register name ≡ true → (q ≢ place name) × (q ≢ temporary (place name))

-- all else is as before
abbrev pub KeepsBesideRegisters : World → World → Type 0
KeepsBesideRegisters old new = (q : Path) → IsBesideRegisters q → new q ≡ old q

-- each file of a name is as it is to be, and all else is as before
pub record AreRegistered (entries : List Interest) (old new : World) : Type 0 where
  pub each : (name : List ℕ) → is_register name ≡ true → new (place name) ≡ left_at entries old name
  pub rest : KeepsBesideRegisters old new

-- at each moment: each as before, or as it is to be
pub record AreBeingRegistered (entries : List Interest) (old now : World) : Type 0 where
  pub each : (name : List ℕ) → is_register name ≡ true → (now (place name) ≡ old (place name)) ⊎ (now (place name) ≡ left_at entries old name)
  pub rest : KeepsBesideRegisters old now

-- nothing was in the way of one
pub record IsFree (entries : List Interest) (w : World) : Type 0 where
  pub directory : IsLoose (w triggers_directory) → ⊥
  pub each : (name : List ℕ) → is_register name ≡ true → is_due entries w name ≡ true → is_hindered w (place name) ≡ false

-- something was in the way of one that is due, or of the directory
abbrev pub IsHindered : List Interest → World → Type 0
IsHindered entries w =
    IsLoose (w triggers_directory) ⊎ ((name : List ℕ) × (is_register name ≡ true) × (is_due entries w name ≡ true) × (is_hindered w (place name) ≡ true))

-- the interests of the packages with files are those of the files, but for what is in the way, which is told
pub record HasRegistered (records : List Record) (free : Bool) (old new : World) : Type 0 where
  pub files : AreRegistered (entries_of old records) old new
  pub told : MatchBool free (IsFree (entries_of old records) old) (IsHindered (entries_of old records) old)

abbrev pub IsRegistering : List Record → World → World → Type 0
IsRegistering records old now = AreBeingRegistered (entries_of old records) old now
