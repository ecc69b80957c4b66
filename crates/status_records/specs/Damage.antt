-- The first faulty line of the status file's text.
use Rattle.std.specs.Prelude.{◌≡◌, ◌⊎◌, ◌<◌, ◌^◌, ℕ, true, List, [], ◌∷◌, ◌++◌, Option, Some, None, length, codes, slice_get, is_some, false}
use Rattle.std.specs.List.{list_any, AllByRecursion}
use Rattle.std.specs.Str.{bytes_eq}
use Rattle.control_fields.specs.Names.{line_of_field}
use Rattle.control_fields.specs.Grammar.{lines_of, paragraphs_of}
use Rattle.control_fields.specs.Faults.{IsReadTo}
use Rattle.control_fields.specs.declared.field.Field.{Field}
use Rattle.control_fields.specs.declared.located.Located.{Located}
use Rattle.control_fields.specs.declared.fault.ControlFault.{ControlFault}
use Rattle.control_fields.specs.declared.fault.ControlFault.TheVariants.{NoColon, BadName, Twice, OrphanContinuation, NotUtf8, NoMemory, Second}
use Rattle.status_records.specs.declared.record.Record.{Record}
use Rattle.status_records.specs.Values.{IsReadable}
use Rattle.status_records.specs.declared.words.Want.{Want}
use Rattle.status_records.specs.declared.words.Flag.{Flag}
use Rattle.status_records.specs.declared.words.StateWord.{StateWord}
use Rattle.status_records.specs.Words.{status_text, disagrees}
use Rattle.status_records.specs.Paragraphs.{field_in, Says, IsNamed, IsGone, Enters}

-- the line that a fault of the control grammar tells
abbrev pub line_in : ControlFault → ℕ
line_in (NoColon line) = line
line_in (BadName line) = line
line_in (Twice line) = line
line_in (OrphanContinuation line) = line
line_in (NotUtf8 line) = line
line_in NoMemory = 0
line_in (Second line) = line

-- Package, Status or Version is missing; where the package is gone no Version is needed
abbrev pub IsMissing : List Field → Type 0
IsMissing fields = (field_in (codes "package") fields ≡ None) ⊎ ((field_in (codes "status") fields ≡ None) ⊎ ((field_in (codes "version") fields ≡ None) × (IsGone fields → ⊥)))

-- a paragraph before is of the same package
abbrev pub IsTaken : List (List ℕ) → List Field → Type 0
IsTaken names fields = (name : List ℕ) × IsNamed fields name × (list_any (bytes_eq name) names ≡ true)

-- triggers are pending or awaited beside a state that has none, or aren't beside one that has
abbrev pub AreAmiss : List Field → Type 0
AreAmiss fields = (want : Want) × (flag : Flag) × (word : StateWord) × Says (codes "status") fields (status_text want flag word)
    × (disagrees word (is_some (field_in (codes "triggers-pending") fields)) (is_some (field_in (codes "triggers-awaited") fields)) ≡ true)

-- the fault is one of the paragraph as a whole
abbrev pub IsFaultyWhole : List (List ℕ) → List Field → Type 0
IsFaultyWhole names fields = IsMissing fields ⊎ (IsTaken names fields ⊎ AreAmiss fields)

-- the first field whose value can't be read stands on this line
pub record IsBadField (l : Located) (line : ℕ) : Type 0 where
  pub front : List Field
  pub field : Field
  pub rest : List Field
  pub is : l.paragraph ≡ front ++ field ∷ rest
  pub good : AllByRecursion IsReadable front
  pub bad : IsReadable field → ⊥
  pub line_is : line ≡ line_of_field l.line l.paragraph (length front)

-- the first faulty line of a paragraph: its first where it is faulty as a whole
abbrev pub IsFaultyEntry : List (List ℕ) → Located → ℕ → Type 0
IsFaultyEntry names l line = (IsFaultyWhole names l.paragraph × (line ≡ l.line)) ⊎ ((IsFaultyWhole names l.paragraph → ⊥) × IsBadField l line)

-- the paragraphs before the first faulty one are read, and this is its line
pub record IsFaultAmong (paragraphs : List Located) (line : ℕ) : Type 0 where
  pub front : List Located
  pub faulty : Located
  pub rest : List Located
  pub is : paragraphs ≡ front ++ faulty ∷ rest
  pub names : List (List ℕ)
  pub records : List Record
  pub before : Enters [] [] (paragraphs_of front) names records
  pub here : IsFaultyEntry names faulty line

-- all paragraphs are read
abbrev pub HasEntered : List Located → Type 0
HasEntered paragraphs = (names : List (List ℕ)) × (records : List Record) × Enters [] [] (paragraphs_of paragraphs) names records

-- the first faulty line behind the whole paragraphs: a field of the one that the grammar's fault broke off, or that fault's
abbrev pub IsFaultyEnd : Located → Option ControlFault → ℕ → Type 0
IsFaultyEnd begun fault line = IsBadField begun line ⊎ (AllByRecursion IsReadable begun.paragraph × ((f : ControlFault) × (fault ≡ Some f) × (line ≡ line_in f)))

-- whole paragraphs come first
abbrev pub IsFaultOf : List Located → Located → Option ControlFault → ℕ → Type 0
IsFaultOf paragraphs begun fault line = IsFaultAmong paragraphs line ⊎ (HasEntered paragraphs × IsFaultyEnd begun fault line)

-- this line of the text is its first faulty one
pub record IsFirstFault (text : List ℕ) (line : ℕ) : Type 0 where
  pub paragraphs : List Located
  pub begun : Located
  pub fault : Option ControlFault
  pub read : IsReadTo (lines_of text) paragraphs begun fault
  pub told : IsFaultOf paragraphs begun fault line

-- the lines of the fields can be counted
abbrev pub HasLines : Located → Type 0
HasLines l = (k : ℕ) (f : Field) → slice_get l.paragraph k ≡ Some f → line_of_field l.line l.paragraph k < 2 ^ 64
