-- The records that the status file and the notes stand for.
use Rattle.std.specs.Prelude.{◌≡◌, ◌<◌, ◌≤◌, ◌||◌, ℕ, Bool, List, ◌++◌, Option, None, codes}
use Rattle.std.specs.List.{starts_with}
use Rattle.std.specs.Prelude.{nat_eq}
use Rattle.std.specs.Str.{bytes_eq}
use Rattle.host_core.specs.Paths.{Path}
use Rattle.host_core.specs.World.{World, IsDirectory}
use Rattle.host_core.specs.declared.node.Node.{Node}
use Rattle.administration.specs.Places.{status_path, home_path, updates_path, temporary}
use Rattle.administration.specs.Directories.{HasBadName}
use Rattle.administration.specs.Files.{NoDirectory}
use Rattle.status_db.specs.Notes.{AreNotes, Note, limit, note_path, with_notes}
use Rattle.status_db.specs.Order.{AreInOrder}
use Rattle.status_db.specs.Recorded.{Recorded}
use Rattle.status_records.specs.Records.{record_in, standing}
use Rattle.status_records.specs.Status.{IsStatus, IsStatusAt}
use Rattle.status_records.specs.declared.record.Record.{Record}

-- a table with the records of the text, or of the status file that stands there
abbrev pub HasSame : List Record → List Record → Type 0
HasSame base table = (name : List ℕ) → record_in table name ≡ record_in (standing base) name

abbrev pub IsTableOfText : List ℕ → List Record → Type 0
IsTableOfText text table = ∥ ((base : List Record) × IsStatus text base × HasSame base table) ∥₁

abbrev pub IsTableOf : Option Node → List Record → Type 0
IsTableOf found table = ∥ ((base : List Record) × IsStatusAt found base × HasSame base table) ∥₁

-- The records: those of the status file with the notes over them, the greater number over the smaller, in the order of names.
pub record Holds (w : World) (records : List Record) : Type 0 where
  pub base : List Record
  pub status : IsStatusAt (w status_path) base
  pub notes : ℕ → Option Note
  pub noted : AreNotes w notes
  pub each : (name : List ℕ) → record_in records name ≡ with_notes notes limit (record_in (standing base)) name
  pub order : AreInOrder records

abbrev pub HasRecords : World → List Record → Type 0
HasRecords w records = ∥ Holds w records ∥₁

-- the places that records are written at: the status file, its temporary name, and all below the directory of notes
abbrev pub is_record_place : Path → Bool
is_record_place q = bytes_eq q status_path || (bytes_eq q (temporary status_path) || starts_with nat_eq q (updates_path ++ codes "/"))

-- the directories are there, each name among the notes is text, and no directory is where a file is written aside
pub record IsUnblocked (w : World) : Type 0 where
  pub home : IsDirectory (w home_path)
  pub updates : IsDirectory (w updates_path)
  pub text : HasBadName w updates_path → ⊥
  pub status_spare : NoDirectory (w (temporary status_path))
  pub spares : (n : ℕ) → n < limit → NoDirectory (w (temporary (note_path n)))

-- no note has this number or a greater
abbrev pub IsFree : ℕ → World → Type 0
IsFree notes w = (n : ℕ) → notes ≤ n → n < limit → w (note_path n) ≡ None

-- What open records need, and what is kept of them: they are those that stand there, and no note has the number of the next
-- one or a greater.
pub record AreKept (records : List Record) (notes : ℕ) (w : World) : Type 0 where
  pub unblocked : IsUnblocked w
  pub holds : HasRecords w records
  pub free : IsFree notes w

abbrev pub IsKept : Recorded → World → Type 0
IsKept d w = AreKept d.records d.notes w

-- the next opening finds records, and nothing in their way
pub record CanOpenRecords (w : World) : Type 0 where
  pub unblocked : IsUnblocked w
  pub table : List Record
  pub records : HasRecords w table
