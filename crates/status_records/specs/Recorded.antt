-- The fields of a control file as dpkg records them, beside what a record has of its own.
use Rattle.std.specs.Prelude.{◌≡◌, ◌⊎◌, ◌&&◌, ◌||◌, ℕ, Bool, not, List, [], ◌∷◌, codes, filter, length, nat_eq, nat_lt}
use Rattle.std.specs.Str.{bytes_eq}
use Rattle.control_fields.specs.Names.{lower, value_of}
use Rattle.control_fields.specs.declared.field.Field.{Field}
use Rattle.relation_fields.specs.OneLine.{IsOneLine}
use Rattle.status_records.specs.Fields.{own_names, is_one_of}
use Rattle.status_records.specs.Order.{dpkgs_names, in_dpkgs_order, rank}

-- the fields of which `no` says what holds without them
abbrev pub default_names : List (List ℕ)
default_names = codes "essential" ∷ codes "protected" ∷ codes "multi-arch" ∷ []

abbrev pub says_no : Field → Bool
says_no f = is_one_of default_names f && (nat_eq (length f.more) 0 && bytes_eq f.first (codes "no"))

abbrev pub is_empty : Field → Bool
is_empty f = nat_eq (length f.more) 0 && nat_eq (length f.first) 0

-- the field is one of those that dpkg names
abbrev pub is_dpkgs : Field → Bool
is_dpkgs f = nat_lt (rank f) (length dpkgs_names)

-- dpkg leaves out what says nothing
abbrev pub is_left_out : Field → Bool
is_left_out f = says_no f || (is_dpkgs f && is_empty f)

abbrev pub is_recorded : Field → Bool
is_recorded f = not (is_one_of own_names f || is_left_out f)

-- a field of relations, which dpkg writes on one line
pub record IsOnOneLine (f g : Field) : Type 0 where
  pub name : g.name ≡ f.name
  pub line : IsOneLine (lower f.name) (value_of f) g.first
  pub alone : g.more ≡ []

-- other fields, and those whose relations can't be read, stay as they are
pub record StaysSo (f g : Field) : Type 0 where
  pub none : (text : List ℕ) → IsOneLine (lower f.name) (value_of f) text → ⊥
  pub same : g ≡ f

abbrev pub IsRecordedAs : Field → Field → Type 0
IsRecordedAs f g = IsOnOneLine f g ⊎ StaysSo f g

-- each as it is recorded
abbrev pub AreRecordedAs : List Field → List Field → Type 0
AreRecordedAs [] gs = gs ≡ []
AreRecordedAs (f ∷ fs) [] = ⊥
AreRecordedAs (f ∷ fs) (g ∷ gs) = IsRecordedAs f g × AreRecordedAs fs gs

-- those of a control file, in dpkg's order
abbrev pub AreFieldsOf : List Field → List Field → Type 0
AreFieldsOf control fields = AreRecordedAs (in_dpkgs_order (filter is_recorded control)) fields
