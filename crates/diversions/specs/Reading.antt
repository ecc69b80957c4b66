-- What each step of the reading finds.
use Rattle.std.specs.Prelude.{◌≡◌, ℕ, Bool, true, false, List, [], ◌∷◌, ◌++◌}
use Rattle.diversions.specs.declared.entry.Diversion.{Diversion}
use Rattle.diversions.specs.declared.reading.TableFault.{TableFault}
use Rattle.diversions.specs.declared.reading.TableFault.TheVariants.{Line, NoMemory}
use Rattle.diversions.specs.Entries.{IsTable}
use Rattle.diversions.specs.Lines.{entry_lines, IsFirstFaulty}

-- the three lines are an entry more of the table, or none that it may have
abbrev pub IsNext : List ℕ → List ℕ → List ℕ → List Diversion → List Diversion → Bool → Type 0
IsNext path target owner old new true = (d : Diversion) × (entry_lines d ≡ path ∷ target ∷ owner ∷ []) × (new ≡ old ++ d ∷ [])
IsNext path target owner old new false = (d : Diversion) → entry_lines d ≡ path ∷ target ∷ owner ∷ [] → IsTable (old ++ d ∷ []) → ⊥

-- the first faulty entry of a text
abbrev pub IsTextFault : List ℕ → TableFault → Type 0
IsTextFault text (Line number) = IsFirstFaulty text number
IsTextFault text NoMemory = Unit {0}
