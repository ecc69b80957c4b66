-- Noted records: each in a file of its own, in a directory beside the status file, until that has them.
use Rattle.std.specs.Prelude.{◌≡◌, ◌<◌, ℕ, false, zero, suc, ◌+◌, ◌/◌, ◌%◌, List, [], ◌∷◌, ◌++◌, Option, Some, None, codes}
use Rattle.std.proofs.Common.{refl}
use Rattle.std.specs.Option.{option_to_list}
use Rattle.std.specs.Map.{update}
use Rattle.std.specs.Str.{bytes_eq}
use Rattle.host_core.specs.Paths.{Path}
use Rattle.host_core.specs.World.{World}
use Rattle.host_core.specs.declared.node.Node.{Node}
use Rattle.host_core.specs.declared.node.Node.TheVariants.{File, Dir, Link}
use Rattle.control_fields.specs.Grammar.{Reads, lines_of}
use Rattle.control_fields.specs.declared.field.Field.{Field}
use Rattle.status_records.specs.Paragraphs.{IsEntry, line_field}
use Rattle.status_records.specs.Records.{record_in}
use Rattle.status_records.specs.Words.{is_not_installed}
use Rattle.status_records.specs.declared.record.Record.{Record}

-- four digits
abbrev pub digits : ℕ → List ℕ
digits n = (48 + n / 1000) ∷ (48 + n / 100 % 10) ∷ (48 + n / 10 % 10) ∷ (48 + n % 10) ∷ []

abbrev pub note_path : ℕ → Path
note_path n = codes "/var/lib/dpkg/updates/" ++ digits n

-- how many numbers there are
pub limit : ℕ
limit = 10000

pub limit_is : limit ≡ 10000
unfolding limit
limit_is = refl

pub below_limit : (n : ℕ) → n < 10000 → n < limit
unfolding limit
below_limit n lt = lt

pub within_limit : (n : ℕ) → n < limit → n < 10000
unfolding limit
within_limit n lt = lt

-- a package with its record, or with none where it has none any more
pub record Note : Type 0 where
  pub name : List ℕ
  pub entry : Option Record

-- the text is one paragraph, which says this
pub record IsNote (text : List ℕ) (note : Note) : Type 0 where
  pub fields : List Field
  pub reads : Reads (lines_of text) (fields ∷ [])
  pub entry : IsEntry [] fields note.name (option_to_list note.entry)

-- what stands at a note's place; a directory or a link is no note
abbrev pub IsNoteAt : Option Node → Option Note → Type 0
IsNoteAt None said = said ≡ None
IsNoteAt (Some (File bytes access)) said = (n : Note) × (said ≡ Some n) × IsNote bytes n
IsNoteAt (Some (Dir access)) said = ⊥
IsNoteAt (Some (Link target)) said = ⊥

-- these are all notes
abbrev pub AreNotes : World → (ℕ → Option Note) → Type 0
AreNotes w notes = (n : ℕ) → n < limit → IsNoteAt (w (note_path n)) (notes n)

-- records by name
abbrev pub Lookup : Type 0
Lookup = List ℕ → Option Record

-- what a note says takes the place of what was said of its package
abbrev pub entered : Option Note → Lookup → Lookup
entered None of = of
entered (Some note) of = update bytes_eq of note.name note.entry

-- the notes below a number over others, the greater over the smaller
abbrev pub with_notes : (ℕ → Option Note) → ℕ → Lookup → Lookup
with_notes notes zero of = of
with_notes notes (suc n) of = entered (notes n) (with_notes notes n of)

-- what the note of a record says, and that of a package which has none any more
abbrev pub said_of : Record → Note
said_of r = record { name = r.name; entry = Some r }

abbrev pub said_gone : List ℕ → Note
said_gone name = record { name = name; entry = None }

-- the paragraph of a package that is gone
abbrev pub gone_fields : List ℕ → List Field
gone_fields name = line_field (codes "Package") name ∷ line_field (codes "Status") (codes "unknown ok not-installed") ∷ []

-- a record that a note brings is of the note's package, which isn't gone
abbrev pub IsSaid : List ℕ → Option Record → Type 0
IsSaid name None = Unit {0}
IsSaid name (Some r) = (r.name ≡ name) × (is_not_installed r.state ≡ false)

-- a table took what stands at a note's place
abbrev pub IsNoteTaken : Option Node → List Record → List Record → Type 0
IsNoteTaken found before after = (note : Option Note) × IsNoteAt found note × ((name : List ℕ) → record_in after name ≡ entered note (record_in before) name)
