-- What the text of a package's file `triggers` says (deb-triggers): a directive a line.
use Rattle.std.specs.Prelude.{ℕ, ◌+◌, Bool, true, false, nat_eq, if◌then◌else◌, List, [], ◌∷◌, Option, Some, None, Result, Ok, Err, codes}
use Rattle.std.specs.List.{flat_map, list_any, position_or_len, starts_with}
use Rattle.diversions.specs.Lines.{lines_in}
use Rattle.trigger_interests.specs.Words.{directive_of, is_trigger_name, words_in}
use Rattle.trigger_interests.specs.declared.lines.Declaration.{Declaration}
use Rattle.trigger_interests.specs.declared.lines.Line.{Line}
use Rattle.trigger_interests.specs.declared.lines.Line.TheVariants.{Silent, Declares, Faulty}
use Rattle.trigger_interests.specs.declared.words.Directive.{Directive}

-- what a directive with a name declares; a line without a directive, or with a bad name, is faulty
abbrev pub declares : Option Directive → List ℕ → Line
declares None name = Faulty
declares (Some directive) name = if is_trigger_name name then Declares (record { directive = directive; name = name }) else Faulty

-- what a first word says with those behind it: a directive has one name
abbrev pub line_from : List ℕ → List (List ℕ) → Line
line_from word [] = Faulty
line_from word (name ∷ []) = declares (directive_of word) name
line_from word (name ∷ more ∷ rest) = Faulty

-- without words, and with `#` in front, a line says nothing
abbrev pub line_by : List (List ℕ) → Line
line_by [] = Silent
line_by (word ∷ rest) = if starts_with nat_eq word (codes "#") then Silent else line_from word rest

-- what a line says, by its words
abbrev pub line_of : List ℕ → Line
line_of line = line_by (words_in line)

abbrev pub is_faulty : Line → Bool
is_faulty Silent = false
is_faulty (Declares declaration) = false
is_faulty Faulty = true

-- whether nothing can be read of a line
abbrev pub is_faulty_line : List ℕ → Bool
is_faulty_line line = is_faulty (line_of line)

-- the declaration, where it is one
abbrev pub declarations_by : Line → List Declaration
declarations_by Silent = []
declarations_by (Declares declaration) = declaration ∷ []
declarations_by Faulty = []

-- what lines declare, in their order, or the number of the first that is faulty, counted from 1
abbrev pub declarations_of : List (List ℕ) → Result (List Declaration) ℕ
declarations_of lines = if list_any is_faulty_line lines then Err (position_or_len is_faulty_line lines + 1) else Ok (flat_map (λ line. declarations_by (line_of line)) lines)

-- the same of a text
abbrev pub declarations_in : List ℕ → Result (List Declaration) ℕ
declarations_in text = declarations_of (lines_in text)
