-- What the text of `statoverride` says.
use Rattle.std.specs.Prelude.{◌||◌, ◌==◌, ℕ, ◌+◌, Bool, nat_eq, is_some, if◌then◌else◌, List, [], ◌∷◌, length, Option, Some, None, option_and_then, Result, Ok, Err}
use Rattle.std.specs.List.{ends_with}
use Rattle.host_core.specs.Paths.{Path}
use Rattle.diversions.specs.Lines.{lines_in}
use Rattle.name_tables.specs.Tables.{put_value, value_in}
use Rattle.stat_overrides.specs.Lines.{override_of}
use Rattle.stat_overrides.specs.declared.lines.Override.{Override}

abbrev pub path_of : Override → Path
path_of o = o.path

-- one more, in the order of paths; none where its path has one already
abbrev pub with_override : List Override → Override → Option (List Override)
with_override before o = if is_some (value_in path_of before o.path) then None else Some (put_value path_of o before)

-- behind those of earlier lines that of a line; none where it is faulty, or its path has one already
abbrev pub taken : List ℕ → List Override → Option (List Override)
taken line before = option_and_then (with_override before) (override_of line)

abbrev pub read_on : (List Override → Result (List Override) ℕ) → ℕ → Option (List Override) → Result (List Override) ℕ
read_on rest number None = Err number
read_on rest number (Some more) = rest more

-- the overrides of lines, or the number of the first faulty one
abbrev pub table_from : List (List ℕ) → ℕ → List Override → Result (List Override) ℕ
table_from [] number before = Ok before
table_from (line ∷ lines) number before = read_on (λ more. table_from lines (number + 1) more) number (taken line before)

-- the last line ends too
abbrev pub is_ended : List ℕ → Bool
is_ended text = (length text == 0) || ends_with nat_eq text (10 ∷ [])

-- a text that breaks off is faulty where it does
abbrev pub table_in : List ℕ → Result (List Override) ℕ
table_in text = if is_ended text then table_from (lines_in text) 1 [] else Err (length (lines_in text))
