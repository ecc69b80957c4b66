-- Parts of lines, names of fields, and fields by name (Policy 5.1).
use Rattle.std.specs.Prelude.{◌≡◌, ◌≢◌, ℕ, zero, suc, ◌<◌, ◌+◌, Bool, false, cond, List, [], ◌∷◌, ◌++◌, length, map, nat_eq, ◌||◌, slice_index, EachIndex, codes, true}
use Rattle.std.specs.List.{list_any, flat_map, AllByRecursion}
use Rattle.std.specs.Str.{bytes_eq}
use Rattle.std.specs.Char.{to_ascii_lowercase}
use Rattle.control_fields.specs.declared.field.Field.{Field}

-- the byte stands nowhere in the text
abbrev pub Lacks : List ℕ → ℕ → Type 0
Lacks bytes mark = (i : ℕ) → i < length bytes → slice_index bytes i ≢ mark

-- a space or a tab
abbrev pub is_blank : ℕ → Bool
is_blank b = nat_eq b 32 || nat_eq b 9

-- blanks stay only before what stays
abbrev pub keep_before : ℕ → List ℕ → List ℕ
keep_before b [] = cond (is_blank b) [] (b ∷ [])
keep_before b (c ∷ cs) = b ∷ c ∷ cs

-- without the blanks at the end
abbrev pub trim_end : List ℕ → List ℕ
trim_end [] = []
trim_end (b ∷ bs) = keep_before b (trim_end bs)

-- without the blanks at the start
abbrev pub trim_start : List ℕ → List ℕ
trim_start [] = []
trim_start (b ∷ bs) = cond (is_blank b) (trim_start bs) (b ∷ bs)

-- the lines, with no blanks at the end of the last one
abbrev pub ended : List (List ℕ) → List (List ℕ)
ended [] = []
ended (l ∷ []) = trim_end l ∷ []
ended (l ∷ m ∷ ls) = l ∷ ended (m ∷ ls)

-- the first line of a value, with no blanks at its end where no other line goes on with it
abbrev pub ended_first : List ℕ → List (List ℕ) → List ℕ
ended_first first [] = trim_end first
ended_first first (l ∷ ls) = first

-- a field whose value has ended: blanks at the end of the whole value don't count, those at the ends of its other lines do
abbrev pub settled : Field → Field
settled f = record { name = f.name; first = ended_first f.first f.more; more = ended f.more }

-- fields of which the last one's value has ended too
abbrev pub settled_last : List Field → List Field
settled_last [] = []
settled_last (f ∷ []) = settled f ∷ []
settled_last (f ∷ g ∷ fs) = f ∷ settled_last (g ∷ fs)

-- what a field may be called (Policy 5.1): bytes 33 to 126, and neither `#` nor `-` first; its colon is the line's first
abbrev pub IsName : List ℕ → Type 0
IsName name = (0 < length name) × (slice_index name 0 ≢ 35) × (slice_index name 0 ≢ 45) × EachIndex name (λ i. (32 < slice_index name i) × (slice_index name i < 127))

-- Names are compared without regard to case (Policy 5.1).
abbrev pub lower : List ℕ → List ℕ
lower name = map to_ascii_lowercase name

-- whether a field's name in lower case is the text
abbrev pub is_called : List ℕ → List Field → Bool
is_called text fields = list_any (λ f. bytes_eq (lower f.name) text) fields

-- whether a field has this name, in any case
abbrev pub stands : List ℕ → List Field → Bool
stands name fields = is_called (lower name) fields

-- the field whose name in lower case is the text
pub record IsFieldCalled (text : List ℕ) (fields : List Field) (f : Field) : Type 0 where
  pub front : List Field
  pub rest : List Field
  pub is : fields ≡ front ++ f ∷ rest
  pub named : lower f.name ≡ text
  pub first : is_called text front ≡ false
  pub only : is_called text rest ≡ false

-- fields after others, each with a name that stands before it in no case
abbrev pub AreNew : List Field → List Field → Type 0
AreNew before [] = Unit {0}
AreNew before (f ∷ fs) = (stands f.name before ≡ false) × AreNew (before ++ f ∷ []) fs

-- without their keys
abbrev pub fields_of : {K : Type 0} → List (K × Field) → List Field
fields_of entries = map (λ e. e.1) entries

-- each field under its name in lower case
pub record IsKeyed {K : Type 0} (key : K → List ℕ) (entries : List (K × Field)) : Type 0 where
  pub keyed : AllByRecursion (λ e. key e.0 ≡ lower e.1.name) entries
  pub new : AreNew [] (fields_of entries)

-- a field with a line more
abbrev pub with_line : Field → List ℕ → Field
with_line field text = record { name = field.name; first = field.first; more = field.more ++ text ∷ [] }

-- `yes` or `no` (Policy 5.6.9)
abbrev pub is_yes_or_no : List ℕ → Bool
is_yes_or_no value = bytes_eq value (codes "yes") || bytes_eq value (codes "no")

-- the field has such a value, on one line
abbrev pub IsYesOrNo : Field → Type 0
IsYesOrNo field = (field.more ≡ []) × (is_yes_or_no field.first ≡ true)

-- the value on all its lines, with a newline between two
abbrev pub value_of : Field → List ℕ
value_of field = field.first ++ flat_map (λ line. 10 ∷ line) field.more

-- the line where a paragraph begins, that of its first field
abbrev pub begin_line : List Field → ℕ → ℕ → ℕ
begin_line [] line number = number
begin_line (f ∷ fs) line number = line

-- the line of a paragraph's field: each field before it takes its own line and those that go on with it
abbrev pub line_of_field : ℕ → List Field → ℕ → ℕ
line_of_field line [] k = line
line_of_field line (f ∷ fs) zero = line
line_of_field line (f ∷ fs) (suc k) = line_of_field (line + 1 + length f.more) fs k
