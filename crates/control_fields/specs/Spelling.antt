-- The written form of paragraphs, and what has one (Policy 5.1).
use Rattle.std.specs.Prelude.{◌≡◌, Bool, false, cond, codes, ℕ, List, [], ◌∷◌, ◌++◌}
use Rattle.std.specs.List.{flat_map, list_any, AllByRecursion}
use Rattle.std.specs.Str.{IsUtf8, bytes_eq}
use Rattle.control_fields.specs.Names.{Lacks, lower, trim_end, trim_start, settled, IsName, stands}
use Rattle.control_fields.specs.Faults.{BeginsBlank}
use Rattle.control_fields.specs.declared.field.Field.{Field}

-- each line with its newline
abbrev pub spell_more : List (List ℕ) → List ℕ
spell_more ls = flat_map (λ l. l ++ 10 ∷ []) ls

-- the fields of conffiles, by their names in lower case: dpkg's own and this project's
abbrev pub conffile_names : List (List ℕ)
conffile_names = codes "conffiles" ∷ codes "new-conffiles" ∷ []

-- no blank stands behind the colon of these where the value begins on the next line
abbrev pub has_no_blank : List ℕ → List ℕ → Bool
has_no_blank name [] = list_any (bytes_eq (lower name)) conffile_names
has_no_blank name (b ∷ bs) = false

-- the value on the name's line, behind one blank, which stands there too where nothing follows it: as dpkg writes it
abbrev pub spell_first : List ℕ → List ℕ → List ℕ
spell_first name first = cond (has_no_blank name first) [] (32 ∷ first)

-- name, colon, value, and the lines that go on with it (Policy 5.1)
abbrev pub spell_field : Field → List ℕ
spell_field f = f.name ++ 58 ∷ spell_first f.name f.first ++ 10 ∷ spell_more f.more

-- a paragraph, field by field
abbrev pub spell : List Field → List ℕ
spell fields = flat_map spell_field fields

-- one blank line between two paragraphs
abbrev pub spell_all : List (List Field) → List ℕ
spell_all [] = []
spell_all (p ∷ []) = spell p
spell_all (p ∷ q ∷ ps) = spell p ++ 10 ∷ spell_all (q ∷ ps)

-- a line that goes on with a field: it begins with a blank, and isn't blank
pub record IsMore (l : List ℕ) : Type 0 where
  pub utf8 : IsUtf8 l
  pub one_line : Lacks l 10
  pub blank : BeginsBlank (trim_end l)

-- the line of a field's name
abbrev pub first_line : Field → List ℕ
first_line f = f.name ++ 58 ∷ spell_first f.name f.first

-- a field that has a written form; only at the end of its whole value stand no blanks
pub record IsField (f : Field) : Type 0 where
  pub name : IsName f.name
  pub no_colon : Lacks f.name 58
  pub utf8 : IsUtf8 (first_line f)
  pub one_line : Lacks (first_line f) 10
  pub start_trimmed : trim_start f.first ≡ f.first
  pub more : AllByRecursion IsMore f.more
  pub ended : settled f ≡ f

-- fields after others, each with a new name
abbrev pub AreFields : List Field → List Field → Type 0
AreFields before [] = Unit {0}
AreFields before (f ∷ fs) = IsField f × (stands f.name before ≡ false) × AreFields (before ++ f ∷ []) fs

-- a paragraph that has a written form
pub record IsParagraph (fields : List Field) : Type 0 where
  pub some : fields ≡ [] → ⊥
  pub are : AreFields [] fields
