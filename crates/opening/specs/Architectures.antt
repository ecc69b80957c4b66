-- A root has packages of one architecture (Policy 5.6.8); one of `all`, or of which the field says nothing, fits each.
use Rattle.std.specs.Prelude.{◌≡◌, ℕ, Bool, cond, List, [], ◌∷◌, Option, Some, None, codes}
use Rattle.std.specs.Str.{bytes_eq}
use Rattle.administration.specs.Places.{status_path}
use Rattle.administration.specs.declared.fault.AdministrationFault.{AdministrationFault}
use Rattle.administration.specs.declared.fault.AdministrationFault.TheVariants.{Damaged, Device, NoMemory, Declined}
use Rattle.control_fields.specs.Faults.{IsReadTo}
use Rattle.control_fields.specs.Grammar.{lines_of}
use Rattle.control_fields.specs.declared.fault.ControlFault.{ControlFault}
use Rattle.control_fields.specs.declared.field.Field.{Field}
use Rattle.control_fields.specs.declared.located.Located.{Located}
use Rattle.host_core.specs.World.{World}
use Rattle.host_core.specs.declared.node.Node.{Node}
use Rattle.host_core.specs.declared.node.Node.TheVariants.{File, Dir, Link}
use Rattle.recorded_packages.specs.Packages.{is_foreign, root_architecture}
use Rattle.status_records.specs.Paragraphs.{field_in}
use Rattle.status_records.specs.declared.record.Record.{Record}

-- the first of these records whose package is of another architecture than the root
abbrev pub first_foreign : Option (List ℕ) → List Record → Option Record
first_foreign root [] = None
first_foreign root (r ∷ rs) = cond (is_foreign root r) (Some r) (first_foreign root rs)

-- The first record of a package of a second architecture: another than that of the first package, by name, that is of one.
abbrev pub second_in : List Record → Option Record
second_in table = first_foreign (root_architecture table) table

abbrev pub AreOfOne : List Record → Type 0
AreOfOne table = second_in table ≡ None

-- the value on a field's line
abbrev pub line_of : Option Field → List ℕ
line_of None = []
line_of (Some field) = field.first

-- the paragraph is of the package of this name
abbrev pub is_named : List ℕ → List Field → Bool
is_named name fields = bytes_eq (line_of (field_in (codes "package") fields)) name

-- the line where the first paragraph of this package begins; 0 where there is none
abbrev pub line_named : List ℕ → List Located → ℕ
line_named name [] = 0
line_named name (l ∷ ls) = cond (is_named name l.paragraph) l.line (line_named name ls)

-- the same, in a text
pub record IsLineIn (text name : List ℕ) (line : ℕ) : Type 0 where
  pub paragraphs : List Located
  pub begun : Located
  pub fault : Option ControlFault
  pub read : IsReadTo (lines_of text) paragraphs begun fault
  pub is : line ≡ line_named name paragraphs

-- in what stands at a place
abbrev pub IsLineAt : Option Node → List ℕ → ℕ → Type 0
IsLineAt None name line = line ≡ 0
IsLineAt (Some (File bytes access)) name line = IsLineIn bytes name line
IsLineAt (Some (Dir access)) name line = line ≡ 0
IsLineAt (Some (Link target)) name line = line ≡ 0

-- what is told of the status file, by the line where this package's paragraph begins
abbrev pub IsToldAt : World → List ℕ → AdministrationFault → Type 0
IsToldAt w name (Damaged file line) = (file ≡ status_path) × IsLineAt (w status_path) name line
IsToldAt w name Device = Unit {0}
IsToldAt w name NoMemory = Unit {0}
IsToldAt w name Declined = Unit {0}

-- The records are of packages of two architectures, which is told of the first one of the second.
pub record AreOfTwo (w : World) (table : List Record) (fault : AdministrationFault) : Type 0 where
  pub second : Record
  pub is : second_in table ≡ Some second
  pub told : IsToldAt w second.name fault
