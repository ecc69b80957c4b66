-- The records that a status file stands for.
use Rattle.std.specs.Prelude.{◌≡◌, ℕ, List, [], Option, Some, None}
use Rattle.host_core.specs.World.{World}
use Rattle.host_core.specs.Nodes.{own_access}
use Rattle.host_core.specs.declared.node.Node.{Node}
use Rattle.host_core.specs.declared.node.Node.TheVariants.{File, Dir, Link}
use Rattle.administration.specs.Places.{status_path}
use Rattle.administration.specs.declared.fault.AdministrationFault.{AdministrationFault}
use Rattle.administration.specs.declared.fault.AdministrationFault.TheVariants.{Damaged, Device, NoMemory, Declined}
use Rattle.control_fields.specs.Grammar.{Reads, lines_of}
use Rattle.control_fields.specs.declared.field.Field.{Field}
use Rattle.status_records.specs.Records.{standing}
use Rattle.status_records.specs.Paragraphs.{Enters}
use Rattle.status_records.specs.Damage.{IsFirstFault}
use Rattle.status_records.specs.declared.record.Record.{Record}

-- The text stands for these records: its paragraphs say them, each of a package of its own. A record of state
-- not-installed has no paragraph.
pub record IsStatus (text : List ℕ) (records : List Record) : Type 0 where
  pub paragraphs : List (List Field)
  pub names : List (List ℕ)
  pub reads : Reads (lines_of text) paragraphs
  pub enters : Enters [] [] paragraphs names (standing records)

-- the status file of these records stands there; a missing one has an empty text, a directory or a link is none
abbrev pub IsStatusAt : Option Node → List Record → Type 0
IsStatusAt None records = IsStatus [] records
IsStatusAt (Some (File bytes access)) records = IsStatus bytes records
IsStatusAt (Some (Dir access)) records = ⊥
IsStatusAt (Some (Link target)) records = ⊥

-- a file of mode 644, of the superuser, that stands for these records
abbrev pub IsFileOf : Option Node → List Record → Type 0
IsFileOf found records = (bytes : List ℕ) × (found ≡ Some (File bytes (own_access 0o644))) × ∥ IsStatus bytes records ∥₁

-- why no records are read of a node: a faulty line, or line 0 where it is no file
abbrev pub IsDamageAt : Option Node → ℕ → Type 0
IsDamageAt None line = IsFirstFault [] line
IsDamageAt (Some (File bytes access)) line = IsFirstFault bytes line
IsDamageAt (Some (Dir access)) line = line ≡ 0
IsDamageAt (Some (Link target)) line = line ≡ 0

-- why the status file can't be read, by what stands at its place
abbrev pub IsNodeDamage : Option Node → AdministrationFault → Type 0
IsNodeDamage found (Damaged file line) = (file ≡ status_path) × IsDamageAt found line
IsNodeDamage found Device = Unit {0}
IsNodeDamage found NoMemory = Unit {0}
IsNodeDamage found Declined = Unit {0}

abbrev pub IsStatusDamage : World → AdministrationFault → Type 0
IsStatusDamage w fault = IsNodeDamage (w status_path) fault

-- the same by its text
abbrev pub IsFileDamage : List ℕ → AdministrationFault → Type 0
IsFileDamage text (Damaged file line) = (file ≡ status_path) × IsFirstFault text line
IsFileDamage text Device = Unit {0}
IsFileDamage text NoMemory = Unit {0}
IsFileDamage text Declined = Unit {0}
