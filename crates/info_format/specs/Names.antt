-- Names with an architecture. In format 1 the control files of a package of which several may be installed (`Multi-Arch: same`) stand as
-- `info/NAME:ARCH.X`, those of any other as `info/NAME.X`, which in format 0 all do.
use Rattle.std.specs.Prelude.{◌≡◌, ◌||◌, ◌&&◌, not, ℕ, Bool, true, List, [], ◌∷◌, ◌++◌, Option, Some, None, codes, cond, nat_eq}
use Rattle.std.specs.List.{list_all}
use Rattle.std.specs.Str.{bytes_eq}
use Rattle.texts.specs.PackageNames.{is_package_name}
use Rattle.host_core.specs.Paths.{Path, is_path}
use Rattle.file_lists.specs.Info.{entry_path}
use Rattle.status_records.specs.Paragraphs.{field_in}
use Rattle.status_records.specs.Records.{record_in}
use Rattle.status_records.specs.declared.record.Record.{Record}
use Rattle.control_fields.specs.Names.{trim_end}
use Rattle.control_fields.specs.declared.field.Field.{Field}

-- the value on a field's line, without the blanks at its end
abbrev pub line_of : Option Field → List ℕ
line_of None = []
line_of (Some field) = trim_end field.first

abbrev pub value_in : List ℕ → Record → List ℕ
value_in text r = line_of (field_in text r.fields)

-- the architecture of a record with `Multi-Arch: same`; it has the signs of a package's name
abbrev pub architecture_of : Record → Option (List ℕ)
architecture_of r =
    cond (bytes_eq (value_in (codes "multi-arch") r) (codes "same") && (is_package_name r.name && is_package_name (value_in (codes "architecture") r))) (Some (value_in (codes "architecture") r)) None

-- the architectures of packages of which several may be installed, by their names
abbrev pub Architectures : Type 0
Architectures = List ℕ → Option (List ℕ)

abbrev pub in_record : Option Record → Option (List ℕ)
in_record None = None
in_record (Some r) = architecture_of r

abbrev pub architectures : List Record → Architectures
architectures table name = in_record (record_in table name)

-- what a name of a control file ends in: no dot, slash or colon stands in it, and it isn't the end of names under which files are written
abbrev pub is_ending_sign : ℕ → Bool
is_ending_sign b = not (nat_eq b 46 || (nat_eq b 47 || nat_eq b 58))

abbrev pub are_ending_signs : Path → Bool
are_ending_signs ending = list_all is_ending_sign ending

abbrev pub is_ending : Path → Bool
is_ending ending = are_ending_signs ending && not (bytes_eq ending (codes "dpkg-inst"))

abbrev pub long_front : List ℕ → List ℕ → List ℕ
long_front name architecture = name ++ 58 ∷ architecture

-- the two names of a control file of such a package, as paths: with its architecture, and without
pub record AreTwo (arches : Architectures) (long short : Path) : Type 0 where
  pub name : List ℕ
  pub architecture : List ℕ
  pub ending : Path
  pub of : arches name ≡ Some architecture
  pub named : is_package_name name ≡ true
  pub called : is_package_name architecture ≡ true
  pub plain : is_ending ending ≡ true
  pub long_is : long ≡ entry_path (long_front name architecture ++ 46 ∷ ending)
  pub short_is : short ≡ entry_path (name ++ 46 ∷ ending)
  pub long_fits : is_path long ≡ true
  pub short_fits : is_path short ≡ true
