-- What is written of the lines of units while a command goes on.
use Rattle.std.specs.Prelude.{◌≡◌, ◌++◌, ◌≢◌, ℕ, List, [], ◌∷◌, Option, None, Result, Ok, Err, option_to_list}
use Rattle.std.specs.Io.KnownBytes.{Appends, Keeps}
use Rattle.std.specs.List.{flat_map}
use Rattle.host_core.specs.Host.{State}
use Rattle.report_lines.specs.Reports.{unit_lines}
use Rattle.unit_reports.specs.declared.report.Unit.{Unit as AUnit}
use Rattle.dpkg_session.specs.Installs.{last_of}
use Rattle.dpkg_session.specs.declared.installing.Installed.{Installed}
use Rattle.trigger_turns.specs.Told.{AreTold}
use Rattle.command_line.specs.declared.answer.Answer.{Answer}
use Rattle.command_line.specs.declared.answer.Left.{Left}
use Rattle.command_line.specs.declared.answer.Left.TheVariants as left
use Rattle.command_line.specs.declared.printing.Flow.{Flow}
use Rattle.command_line.specs.declared.printing.Flow.TheVariants as flow
use Rattle.command_line.specs.declared.unpacking.Done.{Done}
use Rattle.command_line.specs.declared.unpacking.Done.TheVariants as done

-- a front of a text was written, but not all of it
abbrev pub AppendsPart : Option (List ℕ) → Option (List ℕ) → List ℕ → Type 0
AppendsPart old new text = (front rest : List ℕ) × (text ≡ front ++ rest) × (rest ≢ []) × Appends old new front

-- a front of a text was written
abbrev pub AppendsFront : Option (List ℕ) → Option (List ℕ) → List ℕ → Type 0
AppendsFront old new text = (front rest : List ℕ) × (text ≡ front ++ rest) × Appends old new front

-- lines were written, or a part of them, or none for want of memory
abbrev pub IsPrinted : List ℕ → Flow → Option (List ℕ) → Option (List ℕ) → Type 0
IsPrinted lines flow.Whole old new = Appends old new lines
IsPrinted lines flow.Cut old new = AppendsPart old new lines
IsPrinted lines flow.Wanting old new = Keeps old new

-- A unit's lines are written before the next unit begins; but behind lines that were cut short, or for which memory was wanting,
-- no more are written.
abbrev pub Prints : List ℕ → Flow → Flow → Option (List ℕ) → Option (List ℕ) → Type 0
Prints lines flow.Whole after old new = IsPrinted lines after old new
Prints lines flow.Cut after old new = (after ≡ flow.Cut) × Keeps old new
Prints lines flow.Wanting after old new = (after ≡ flow.Wanting) × Keeps old new

-- what was written of all lines so far: these, or a part of them, or their first, behind which memory was wanting
abbrev pub HasPrinted : List ℕ → Flow → Option (List ℕ) → Option (List ℕ) → Type 0
HasPrinted lines flow.Whole old new = Appends old new lines
HasPrinted lines flow.Cut old new = AppendsPart old new lines
HasPrinted lines flow.Wanting old new = AppendsFront old new lines

-- the units of a round of an install that were finished, in order, and the one that was broken off
abbrev pub units_of_round : Installed → List AUnit
units_of_round came = came.unpacked.units.items ++ came.configured.units.items

abbrev pub last_of_round : Installed → Option AUnit
last_of_round came = last_of came.unpacked.last came.configured.last

-- the units that were finished, in order
abbrev pub units_of : Done → List AUnit
units_of (done.Unpacked report) = report.units.items
units_of (done.Installed rounds) = flat_map units_of_round rounds.items

-- the unit that was broken off
abbrev pub last_of_rounds : List Installed → Option AUnit
last_of_rounds [] = None
last_of_rounds (came ∷ more) = last_of (last_of_round came) (last_of_rounds more)

abbrev pub last_in : Done → Option AUnit
last_in (done.Unpacked report) = report.last
last_in (done.Installed rounds) = last_of_rounds rounds.items

-- the units of rounds were told, round after round
abbrev pub AreRoundsTold : {W : Type 0} → (W → AUnit → State → W → Type 0) → W → List Installed → W → Type 0
AreRoundsTold tells old [] new = new ≡ old
AreRoundsTold {W} tells old (came ∷ more) new = (mid : W) × AreTold tells old (units_of_round came) mid × AreRoundsTold tells mid more new

-- the units that came of trees were told
abbrev pub IsDoneTold : {W : Type 0} → (W → AUnit → State → W → Type 0) → W → Done → W → Type 0
IsDoneTold tells old (done.Unpacked report) new = AreTold tells old report.units.items new
IsDoneTold tells old (done.Installed rounds) new = AreRoundsTold tells old rounds.items new

-- the answer on units with these lines, the lines of the one that was broken off behind them, and a status
abbrev pub units_answer : List ℕ → Option AUnit → ℕ → Answer
units_answer lines last status = record { output = lines ++ flat_map unit_lines (option_to_list last); error = []; status = status }

-- An answer of which a front is written already. This is left of it; or a part was written of what it has for standard output,
-- and no more can be; or memory was wanting for the rest.
abbrev pub IsLeft : {E : Type 0} → Answer → Option (List ℕ) → Option (List ℕ) → Result Left E → Type 0
IsLeft answer old new (Ok (left.Rest rest)) = (front : List ℕ) × Appends old new front × (answer ≡ record rest { output = front ++ rest.output })
IsLeft answer old new (Ok left.Cut) = AppendsPart old new answer.output
IsLeft answer old new (Err e) = AppendsFront old new answer.output

-- the status with which it ends
abbrev pub status_left : Left → ℕ
status_left (left.Rest rest) = rest.status
status_left left.Cut = 2

-- what is still to be written to standard output
abbrev pub output_left : Left → List ℕ
output_left (left.Rest rest) = rest.output
output_left left.Cut = []
