-- What is wrong with control text, and where.
use Rattle.std.specs.Prelude.{◌≡◌, ◌≢◌, ◌⊎◌, ℕ, ◌+◌, ◌<◌, ◌≤◌, Bool, IsTrue, true, List, [], ◌∷◌, ◌++◌, length, Option, Some, None}
use Rattle.std.specs.Str.{IsUtf8}
use Rattle.control_fields.specs.Names.{Lacks, is_blank, trim_end, IsName, stands}
use Rattle.control_fields.specs.Grammar.{Reading, start, nothing, settled_at, closed, IsCut, Takes, Run}
use Rattle.control_fields.specs.Told.{told}
use Rattle.control_fields.specs.declared.located.Located.{Located}
use Rattle.control_fields.specs.declared.reading.Kind.{Kind}
use Rattle.control_fields.specs.declared.reading.Kind.TheVariants.{NotUtf8, OrphanContinuation, NoColon, BadName, Twice}
use Rattle.control_fields.specs.declared.fault.ControlFault.{ControlFault}
use Rattle.control_fields.specs.declared.fault.ControlFault.TheVariants.{Second, NoMemory}
use Rattle.control_fields.specs.declared.reading.LineFault.{LineFault}
use Rattle.control_fields.specs.declared.reading.LineFault.TheVariants as line

-- the text begins with a space or tab
abbrev pub BeginsBlank : List ℕ → Type 0
BeginsBlank [] = ⊥
BeginsBlank (b ∷ bs) = is_blank b ≡ true

-- what is wrong with a line
abbrev pub HasFault : Kind → List ℕ → Reading → Type 0
HasFault NotUtf8 bytes s = IsUtf8 bytes → ⊥
HasFault OrphanContinuation bytes s = BeginsBlank (trim_end bytes) × (s.begun.paragraph ≡ [])
HasFault NoColon bytes s = (trim_end bytes ≢ []) × (BeginsBlank (trim_end bytes) → ⊥) × Lacks bytes 58
HasFault BadName bytes s = (name value : List ℕ) × IsCut bytes name value × (BeginsBlank (trim_end bytes) → ⊥) × (IsName name → ⊥)
HasFault Twice bytes s = (name value : List ℕ) × IsCut bytes name value × (BeginsBlank (trim_end bytes) → ⊥) × (stands name s.begun.paragraph ≡ true)

-- the faults in the order in which they are looked for
abbrev pub NoneBefore : Kind → List ℕ → Reading → Type 0
NoneBefore NotUtf8 bytes s = Unit {0}
NoneBefore OrphanContinuation bytes s = HasFault NotUtf8 bytes s → ⊥
NoneBefore NoColon bytes s = (HasFault NotUtf8 bytes s → ⊥) × (HasFault OrphanContinuation bytes s → ⊥)
NoneBefore BadName bytes s = (HasFault NotUtf8 bytes s → ⊥) × (HasFault OrphanContinuation bytes s → ⊥) × (HasFault NoColon bytes s → ⊥)
NoneBefore Twice bytes s = (HasFault NotUtf8 bytes s → ⊥) × (HasFault OrphanContinuation bytes s → ⊥) × (HasFault NoColon bytes s → ⊥) × (HasFault BadName bytes s → ⊥)

-- No case takes the line, and this is the first thing that is wrong with it.
pub record IsFaultAt (kind : Kind) (bytes : List ℕ) (s : Reading) : Type 0 where
  pub stuck : (number : ℕ) (t : Reading) → Takes number bytes s t → ⊥
  pub has : HasFault kind bytes s
  pub first : NoneBefore kind bytes s

-- The lines before were read up to this state, and no case takes the next one.
pub record IsFaultIn (ls : List (List ℕ)) (fault : ControlFault) (s : Reading) : Type 0 where
  pub front : List (List ℕ)
  pub bytes : List ℕ
  pub rest : List (List ℕ)
  pub is : ls ≡ front ++ bytes ∷ rest
  pub run : Run 1 front start s
  pub kind : Kind
  pub here : IsFaultAt kind bytes s
  pub as_told : fault ≡ told kind (length front + 1)

-- One paragraph was read, and the next line begins a second one.
pub record IsSecondIn (ls : List (List ℕ)) (fault : ControlFault) : Type 0 where
  pub front : List (List ℕ)
  pub bytes : List ℕ
  pub rest : List (List ℕ)
  pub is : ls ≡ front ++ bytes ∷ rest
  pub s : Reading
  pub run : Run 1 front start s
  pub one : length (closed s) ≤ 1
  pub t : Reading
  pub takes : Takes (length front + 1) bytes s t
  pub two : 1 < length (closed t)
  pub as_told : fault ≡ Second (length front + 1)

-- the fault of a text: that of the first line that no case takes
abbrev pub IsFaultOf : List (List ℕ) → ControlFault → Type 0
IsFaultOf ls fault = (fault ≡ NoMemory) ⊎ ((s : Reading) × IsFaultIn ls fault s)

-- the fault of a text that is to have one paragraph: of the first line that no case takes, or that begins a second one
abbrev pub IsFaultOfOne : List (List ℕ) → ControlFault → Type 0
IsFaultOfOne ls fault = (fault ≡ NoMemory) ⊎ (((s : Reading) × IsFaultIn ls fault s × (length (closed s) ≤ 1)) ⊎ IsSecondIn ls fault)

-- what was read of a text: all of it, or the lines before the first that no case takes, where the last field ends too
abbrev pub IsReadTo : List (List ℕ) → List Located → Located → Option ControlFault → Type 0
IsReadTo ls paragraphs begun None = (s : Reading) × Run 1 ls start s × (paragraphs ≡ closed s) × (begun ≡ nothing)
IsReadTo ls paragraphs begun (Some fault) = (s : Reading) × IsFaultIn ls fault s × (paragraphs ≡ s.done) × (begun ≡ settled_at s.begun)

-- the same for a reader that may be told to stop at a second paragraph
abbrev pub StopsAt : Bool → List (List ℕ) → ControlFault → Reading → Type 0
StopsAt single ls fault s = (fault ≡ NoMemory) ⊎ ((IsFaultIn ls fault s × (IsTrue single → length (closed s) ≤ 1)) ⊎ (IsTrue single × IsSecondIn ls fault))

-- why a line wasn't taken; a faulty one changes nothing
abbrev pub IsLineFault : LineFault → List ℕ → Reading → Reading → Type 0
IsLineFault (line.Faulty kind) bytes s t = IsFaultAt kind bytes s × (t ≡ s)
IsLineFault line.NoMemory bytes s t = Unit {0}

-- the same with the line's number, also where the line begins a second paragraph
abbrev pub IsFaultHere : Bool → ControlFault → ℕ → List ℕ → Reading → Reading → Type 0
IsFaultHere single fault number bytes s t = (fault ≡ NoMemory) ⊎ (((kind : Kind) × IsFaultAt kind bytes s × (fault ≡ told kind number) × (t ≡ s)) ⊎ (IsTrue single × Takes number bytes s t × (1 < length (closed t)) × (fault ≡ Second number)))
