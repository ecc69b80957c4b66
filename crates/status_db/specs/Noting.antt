-- What writing a note, or merging all notes into the status file, leaves.
use Rattle.std.specs.Prelude.{◌≡◌, ◌⊎◌, ◌<◌, ◌≤◌, ◌||◌, ℕ, Bool, List, Some, cond, is_some, not}
use Rattle.std.specs.Ordering.{nat_cmp, is_lt}
use Rattle.host_core.specs.World.{World, KeepsBut}
use Rattle.host_core.specs.Nodes.{own_access}
use Rattle.host_core.specs.declared.node.Node.{Node}
use Rattle.host_core.specs.declared.node.Node.TheVariants.{File}
use Rattle.administration.specs.Files.{KeepsBesideFile}
use Rattle.administration.specs.Places.{status_path}
use Rattle.status_db.specs.Notes.{IsNote, Note, entered, note_path}
use Rattle.status_db.specs.Order.{AreInOrder}
use Rattle.status_db.specs.Recorded.{Recorded}
use Rattle.status_records.specs.Records.{drop_record, put_record, record_in}
use Rattle.status_records.specs.Status.{IsFileOf, IsStatus}
use Rattle.status_db.specs.Held.{AreKept, CanOpenRecords, HasRecords, is_record_place}
use Rattle.status_records.specs.Words.{is_not_installed}
use Rattle.status_records.specs.declared.record.Record.{Record}

-- the number of a note, where so many came before it: 250 stand at most, then all are merged first
abbrev pub note_number : ℕ → ℕ
note_number notes = cond (is_lt (nat_cmp notes 250)) notes 0

-- a record takes its place in a table; one with not-installed takes the package's record away
abbrev pub entered_in : Record → List Record → List Record
entered_in r rs = cond (is_not_installed r.state) (drop_record r.name rs) (put_record r rs)

-- a note of it is written; none is where the package is gone and had no record
abbrev pub writes_note : Record → List Record → Bool
writes_note r rs = not (is_not_installed r.state) || is_some (record_in rs r.name)

-- the file of a note, of mode 644 and of the superuser
abbrev pub IsNoteFile : Node → Note → Type 0
IsNoteFile node note = (bytes : List ℕ) × (node ≡ File bytes (own_access 0o644)) × ∥ IsNote bytes note ∥₁

-- the file of these records
abbrev pub IsStatusFile : Node → List Record → Type 0
IsStatusFile node records = (bytes : List ℕ) × (node ≡ File bytes (own_access 0o644)) × ∥ IsStatus bytes records ∥₁

-- in a table what a note says took the place of what was said of its package
pub record IsEntered (note : Note) (before after : List Record) : Type 0 where
  pub order : AreInOrder after
  pub each : (name : List ℕ) → record_in after name ≡ entered (Some note) (record_in before) name

-- there is room for one more note: where 250 stood they are in the status file, else nothing was done
pub record HasRoom (records : List Record) (notes number : ℕ) (old new : World) : Type 0 where
  pub kept : AreKept records number new
  pub same : notes < 250 → new ≡ old
  pub merged : 250 ≤ notes → IsFileOf (new status_path) records
  pub rest : KeepsBut is_record_place old new

-- the records are kept, and only they have changed
pub record AreNoted (records : List Record) (notes : ℕ) (old new : World) : Type 0 where
  pub kept : AreKept records notes new
  pub rest : KeepsBut is_record_place old new

abbrev pub IsNoted : Recorded → World → World → Type 0
IsNoted d old new = AreNoted d.records d.notes old new

-- where one note was written: fewer than 250 stood, and nothing else has changed; else the records of before are in the
-- status file
pub record IsPlaced (records : List Record) (notes : ℕ) (old new : World) : Type 0 where
  pub alone : notes < 250 → KeepsBesideFile (note_path notes) old new
  pub merged : 250 ≤ notes → IsFileOf (new status_path) records

-- at each moment: the records of before, or these; the next opening finds them
pub record IsNoting (before after : List Record) (old now : World) : Type 0 where
  pub records : HasRecords now before ⊎ HasRecords now after
  pub opens : CanOpenRecords now
  pub rest : KeepsBut is_record_place old now

-- the status file has all records, no note stands, and only they have changed
pub record AreMerged (records : List Record) (old new : World) : Type 0 where
  pub kept : AreKept records 0 new
  pub file : IsFileOf (new status_path) records
  pub rest : KeepsBut is_record_place old new

-- at each moment of merging: the same records; the next opening finds them
pub record IsMerging (records : List Record) (old now : World) : Type 0 where
  pub same : HasRecords now records
  pub opens : CanOpenRecords now
  pub rest : KeepsBut is_record_place old now
