-- The grammar of control text (Policy 5.1), by cases on one line.
use Rattle.std.specs.Prelude.{◌≡◌, ◌⊎◌, ℕ, ◌+◌, true, false, List, [], ◌∷◌, ◌++◌, map, length, nat_eq, slice_get, Some}
use Rattle.std.specs.List.{slice_split}
use Rattle.std.specs.Str.{IsUtf8}
use Rattle.control_fields.specs.Names.{Lacks, is_blank, trim_end, trim_start, settled_last, IsName, stands, with_line, begin_line, line_of_field}
use Rattle.control_fields.specs.declared.field.Field.{Field}
use Rattle.control_fields.specs.declared.located.Located.{Located}

-- what stands between the newlines; the part after the last one is a line too
abbrev pub lines_of : List ℕ → List (List ℕ)
lines_of bytes = slice_split (λ b. nat_eq b 10) bytes

-- the whole paragraphs so far, and the one that is being read; each has the line of its first field, counted from 1
pub record Reading : Type 0 where
  pub done : List Located
  pub begun : Located

-- no field was read yet
abbrev pub nothing : Located
nothing = record { line = 0; paragraph = [] }

-- before the first line
abbrev pub start : Reading
start = record { done = []; begun = nothing }

-- one without fields is no paragraph
abbrev pub join_last : List Located → Located → List Field → List Located
join_last done last [] = done
join_last done last (f ∷ fs) = done ++ last ∷ []

-- a paragraph whose last field has ended
abbrev pub settled_at : Located → Located
settled_at l = record { line = l.line; paragraph = settled_last l.paragraph }

-- the paragraphs with the last one
abbrev pub with_last : List Located → Located → List Located
with_last done last = join_last done (settled_at last) last.paragraph

-- all paragraphs, at the end of one
abbrev pub closed : Reading → List Located
closed s = with_last s.done s.begun

-- The three cases of a line. Blanks at its end don't decide which it is.

-- nothing else stands on it: a paragraph ends
pub record IsSeparator (bytes : List ℕ) (s t : Reading) : Type 0 where
  pub blank : trim_end bytes ≡ []
  pub to : t ≡ record { done = closed s; begun = nothing }

-- it begins with a blank: the last field goes on, with the line as it stands
pub record IsContinuation (bytes : List ℕ) (s t : Reading) : Type 0 where
  pub begin : ℕ
  pub rest : List ℕ
  pub is : trim_end bytes ≡ begin ∷ rest
  pub blank : is_blank begin ≡ true
  pub front : List Field
  pub last : Field
  pub now : s.begun.paragraph ≡ front ++ last ∷ []
  pub to : t ≡ record { done = s.done; begun = record { line = s.begun.line; paragraph = front ++ with_line last bytes ∷ [] } }

-- a name, a colon and a value
pub record IsCut (bytes name value : List ℕ) : Type 0 where
  pub parts : bytes ≡ name ++ 58 ∷ value
  pub first : Lacks name 58

-- the field of such a line: blanks before its value don't count (Policy 5.1)
abbrev pub field_of : List ℕ → List ℕ → Field
field_of name value = record { name = name; first = trim_start value; more = [] }

-- a paragraph with a field more, which stands on the line of this number; there the field before it has ended
abbrev pub with_field : ℕ → Located → Field → Located
with_field number l f = record { line = begin_line l.paragraph l.line number; paragraph = settled_last l.paragraph ++ f ∷ [] }

-- it has a name that is new to the paragraph, and a value
pub record IsNewField (number : ℕ) (bytes : List ℕ) (s t : Reading) : Type 0 where
  pub name : List ℕ
  pub value : List ℕ
  pub cut : IsCut bytes name value
  pub good : IsName name
  pub new : stands name s.begun.paragraph ≡ false
  pub to : t ≡ record { done = s.done; begun = with_field number s.begun (field_of name value) }

-- the line of this number leads from one state to the next
abbrev pub Takes : ℕ → List ℕ → Reading → Reading → Type 0
Takes number bytes s t = IsUtf8 bytes × (IsSeparator bytes s t ⊎ (IsContinuation bytes s t ⊎ IsNewField number bytes s t))

-- line by line, the first of which has this number
abbrev pub Run : ℕ → List (List ℕ) → Reading → Reading → Type 0
Run number [] s t = t ≡ s
Run number (l ∷ ls) s t = (m : Reading) × Takes number l s m × Run (number + 1) ls m t

-- the field's name stands on the line of this number
pub record StandsOn (ls : List (List ℕ)) (number : ℕ) (f : Field) : Type 0 where
  pub before : List (List ℕ)
  pub bytes : List ℕ
  pub after : List (List ℕ)
  pub is : ls ≡ before ++ bytes ∷ after
  pub counted : number ≡ length before + 1
  pub value : List ℕ
  pub cut : IsCut bytes f.name value

-- each field stands on its own line
abbrev pub IsPlaced : List (List ℕ) → Located → Type 0
IsPlaced ls l = (k : ℕ) (f : Field) → slice_get l.paragraph k ≡ Some f → StandsOn ls (line_of_field l.line l.paragraph k) f

-- without their lines
abbrev pub paragraphs_of : List Located → List (List Field)
paragraphs_of ls = map (λ l. l.paragraph) ls

-- the paragraphs of a text
abbrev pub Reads : List (List ℕ) → List (List Field) → Type 0
Reads ls paragraphs = (s : Reading) × Run 1 ls start s × (paragraphs ≡ paragraphs_of (closed s))

-- the text is one paragraph, or has none
abbrev pub ReadsOne : List (List ℕ) → List Field → Type 0
ReadsOne ls paragraph = Reads ls (paragraph ∷ []) ⊎ (Reads ls [] × (paragraph ≡ []))
