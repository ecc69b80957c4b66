-- What the program answers over real directories.
use Rattle.std.specs.Prelude.{◌≡◌, ◌<◌, ◌⊎◌, ⊤, ℕ, Bool, true, false, List, [], ◌∷◌}
use Rattle.host_files.specs.Replay.{Model, replay}
use Rattle.command_words.specs.Commands.{asked_of, rehearsal_of}
use Rattle.command_words.specs.Topics.{named_in}
use Rattle.dpkg_words.specs.Arguments.{behind_dashes}
use Rattle.dpkg_words.specs.Names.{speaks_dpkg}
use Rattle.dpkg_words.specs.Selections.{selecting_words}
use Rattle.dpkg_words.specs.Translated.{translated}
use Rattle.dpkg_words.specs.declared.selections.Selected.{Selected}
use Rattle.dpkg_words.specs.declared.selections.Selected.TheVariants as come
use Rattle.dpkg_words.specs.Picking.{picks}
use Rattle.dpkg_words.specs.declared.translation.Clearing.{Clearing}
use Rattle.dpkg_words.specs.declared.translation.Gathered.{Gathered}
use Rattle.dpkg_words.specs.declared.translation.Translated.{Translated}
use Rattle.dpkg_words.specs.declared.translation.Translated.TheVariants.{Ours, Gathers, Prints, Selects, Clears, Refused}
use Rattle.command_line.specs.Rehearsed.{IsEndOf}
use Rattle.command_line.specs.Roots.{Around}

-- Of real directories: a root is as an account has it when it is opened, and a host for a tree has done nothing by then. Of what
-- they hold when they are given back, of openings, of other programs and of room for archives nothing is claimed. A script may give the
-- command, or not.
abbrev pub around_real : Model → Type 0 → Bool → Around
around_real model failed beside = record {
  root = λ word state. state ≡ replay model [];
  tree = λ word state. state.events ≡ [];
  left = λ state. ⊤;
  seen = λ state. ⊤;
  failed = failed;
  unopened = ⊤;
  locked = λ word lock. ⊤;
  full = λ word path. ⊤;
  beside = beside;
}

-- The status that a program ends with is that of the reply to its words, or of want of memory; it is 2 where not all of that
-- could be written. So often had the device failed on opening before and after it, and a script gave the words, or not.
abbrev pub IsAnswered : Model → List (List ℕ) → ℕ → Type 0
IsAnswered model words status = (before after : ℕ) × (beside : Bool)
    × IsEndOf (around_real model (before < after) beside) (rehearsal_of words) (named_in words) (asked_of words) status

-- Words are answered that have some files behind them, unless none can be had. Nothing is done where all are passed over.
abbrev pub IsGatheredAnswer : Model → Gathered → ℕ → Type 0
IsGatheredAnswer model gathered status =
    ((files : List (List ℕ)) × IsAnswered model (behind_dashes gathered.front files) status)
    ⊎ ((picks gathered.picking ≡ true) × (status ≡ 0)) ⊎ (status ≡ 2)

-- The words are answered by which some packages are to go, unless there are none, or records can't be read.
abbrev pub IsClearingAnswer : Model → Clearing → ℕ → Type 0
IsClearingAnswer model clearing status =
    ((names : List (List ℕ)) × IsAnswered model (behind_dashes clearing.front names) status) ⊎ (status ≡ 0) ⊎ (status ≡ 2)

-- What a text selects: the words by which it is recorded are answered, nothing is run where no package is selected, and a line
-- that can't be read ends with 2.
abbrev pub IsSelectedAnswer : Model → Selected → ℕ → Type 0
IsSelectedAnswer model (come.Ours words) status = IsAnswered model words status
IsSelectedAnswer model come.Nothing status = status ≡ 0
IsSelectedAnswer model (come.Refused line) status = status ≡ 2

-- the same, unless memory is wanting before
abbrev pub IsTextAnswer : Model → List (List ℕ) → List ℕ → ℕ → Type 0
IsTextAnswer model front text status = IsSelectedAnswer model (selecting_words front text) status ⊎ (status ≡ 2)

-- What the text selects is answered that standard input has, unless none can be read.
abbrev pub IsSelectingAnswer : Model → List (List ℕ) → ℕ → Type 0
IsSelectingAnswer model front status = ((text : List ℕ) × IsTextAnswer model front text status) ⊎ (status ≡ 2)

-- What dpkg's words come to: the program's own words are answered, a text is printed with its status, or with 2 where that can't
-- be done, what standard input selects is answered, and a refusal ends with 2.
abbrev pub IsDpkgAnswer : Model → Translated → ℕ → Type 0
IsDpkgAnswer model (Ours words) status = IsAnswered model words status
IsDpkgAnswer model (Gathers gathered) status = IsGatheredAnswer model gathered status
IsDpkgAnswer model (Prints printed) status = (status ≡ printed.status) ⊎ (status ≡ 2)
IsDpkgAnswer model (Selects front) status = IsSelectingAnswer model front status
IsDpkgAnswer model (Clears clearing) status = IsClearingAnswer model clearing status
IsDpkgAnswer model (Refused line) status = status ≡ 2

-- whether words are dpkg's, by the program's name in front of them
abbrev pub are_dpkgs : List (List ℕ) → Bool
are_dpkgs [] = false
are_dpkgs (name ∷ words) = speaks_dpkg name

-- the answer by the program's name
abbrev pub IsNamedAnswerBy : Bool → Model → List (List ℕ) → ℕ → Type 0
IsNamedAnswerBy true model words status = IsDpkgAnswer model (translated words) status
IsNamedAnswerBy false model words status = IsAnswered model words status

abbrev pub IsNamedAnswer : Model → List (List ℕ) → ℕ → Type 0
IsNamedAnswer model words status = IsNamedAnswerBy (are_dpkgs words) model words status
