-- What is called of a unit, step by step, and which lines that makes.
use Rattle.std.proofs.Common.{◌≡◌, ◌⊎◌, inl, inr, ℕ, List, [], ◌∷◌, Option, Some, None}
use Rattle.host_core.specs.Events.{Ran}
use Rattle.host_core.specs.declared.call.Call.{Call}
use Rattle.undo_rows.specs.declared.rows.Called.{Called}
use Rattle.status_records.specs.declared.record.Record.{Record}
use Rattle.status_records.specs.Records.{record_in}
use Rattle.unit_stages.specs.Parts.{parts_records}
use Rattle.unit_stages.specs.declared.stage.Stage.{Stage}
use Rattle.policy_page.specs.Answers.{fails, works}
use Rattle.removal_page.specs.Lines.{HasEnded, IsLine, Line, ◌⇒◌}

-- what a stage calls with what undoes that, and which record its parts leave, and what is done where the call failed
pub data Step : Type 0 where
  Quiet : (left : Option Record) → Step
  Calls : (call : Call) (undo : Option Call) (left restored : Option Record) → Step

-- a call that succeeds comes before them
abbrev pub behind : Call → List Line → List Line
behind call [] = []
behind call (l ∷ ls) = (works call ∷ l.calls ⇒ l.end) ∷ behind call ls

-- where a call fails
abbrev pub failing : Call → Option Call → (left restored : Option Record) → List Line
failing call None left restored = (fails call ∷ [] ⇒ record { failed = Some call; left = restored }) ∷ []
failing call (Some undo) left restored =
    (fails call ∷ works undo ∷ [] ⇒ record { failed = Some call; left = restored })
    ∷ (fails call ∷ fails undo ∷ [] ⇒ record { failed = Some call; left = left }) ∷ []

abbrev pub joined_lines : List Line → List Line → List Line
joined_lines [] ms = ms
joined_lines (l ∷ ls) ms = l ∷ joined_lines ls ms

-- the lines of these steps, where this is the record before
abbrev pub lines : Option Record → List Step → List Line
lines o [] = ([] ⇒ record { failed = None; left = o }) ∷ []
lines o (Quiet left ∷ steps) = lines left steps
lines o (Calls call undo left restored ∷ steps) = joined_lines (failing call undo left restored) (behind call (lines left steps))

-- one of these lines
abbrev pub Among : List Line → Option Call → List Ran → Type 0
Among [] failed ts = ⊥
Among (l ∷ ls) failed ts = IsLine l failed ts ⊎ Among ls failed ts

abbrev pub Ended : List Line → List ℕ → Option Call → List Record → List Called → List Called → Type 0
Ended [] name failed records told now = ⊥
Ended (l ∷ ls) name failed records told now = HasEnded l name failed records told now ⊎ Ended ls name failed records told now

pub among-left : (ls ms : List Line) (failed : Option Call) (ts : List Ran) → Among ls failed ts → Among (joined_lines ls ms) failed ts
among-left [] ms failed ts none = absurd none
among-left (l ∷ ls) ms failed ts (inl is) = inl is
among-left (l ∷ ls) ms failed ts (inr later) = inr (among-left ls ms failed ts later)

pub among-right : (ls ms : List Line) (failed : Option Call) (ts : List Ran) → Among ms failed ts → Among (joined_lines ls ms) failed ts
among-right [] ms failed ts is = is
among-right (l ∷ ls) ms failed ts is = inr (among-right ls ms failed ts is)

pub among-either : (ls ms : List Line) (failed : Option Call) (ts : List Ran) → Among (joined_lines ls ms) failed ts → Among ls failed ts ⊎ Among ms failed ts
among-either [] ms failed ts is = inr is
among-either (l ∷ ls) ms failed ts (inl is) = inl (inl is)
among-either (l ∷ ls) ms failed ts (inr later) = elim (among-either ls ms failed ts later) [ inl a ↦ inl (inr a) | inr b ↦ inr b ]

pub ended-left : (ls ms : List Line) (name : List ℕ) (failed : Option Call) (records : List Record) (told now : List Called) → Ended ls name failed records told now → Ended (joined_lines ls ms) name failed records told now
ended-left [] ms name failed records told now none = absurd none
ended-left (l ∷ ls) ms name failed records told now (inl is) = inl is
ended-left (l ∷ ls) ms name failed records told now (inr later) = inr (ended-left ls ms name failed records told now later)

pub ended-right : (ls ms : List Line) (name : List ℕ) (failed : Option Call) (records : List Record) (told now : List Called) → Ended ms name failed records told now → Ended (joined_lines ls ms) name failed records told now
ended-right [] ms name failed records told now is = is
ended-right (l ∷ ls) ms name failed records told now is = inr (ended-right ls ms name failed records told now is)

-- a stage is such a step
pub data Fits (name : List ℕ) : Step → Stage → Type 0 where
  quiet : (stage : Stage) (left : Option Record) → stage.row.forward ≡ None
      → ((records : List Record) → record_in (parts_records name stage.parts.items records) name ≡ left) → Fits name (Quiet left) stage
  calls : (stage : Stage) (call : Call) (undo : Option Call) (left restored : Option Record) → stage.row.forward ≡ Some call → stage.row.fallback ≡ None → stage.row.undo ≡ undo
      → ((records : List Record) → record_in (parts_records name stage.parts.items records) name ≡ left)
      → ((records : List Record) → record_in (parts_records name stage.restore.items (parts_records name stage.parts.items records)) name ≡ restored)
      → Fits name (Calls call undo left restored) stage

abbrev pub FitAll : List ℕ → List Step → List Stage → Type 0
FitAll name [] [] = Unit {0}
FitAll name [] (s ∷ ss) = ⊥
FitAll name (p ∷ ps) [] = ⊥
FitAll name (p ∷ ps) (s ∷ ss) = Fits name p s × FitAll name ps ss
