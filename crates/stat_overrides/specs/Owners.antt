-- The numbers of users and groups, by the lines of `passwd` and `group`: `NAME:x:NUMBER:..`.
use Rattle.std.specs.Prelude.{ℕ, if◌then◌else◌, List, [], ◌∷◌, Option, Some, None, option_and_then}
use Rattle.std.specs.Str.{bytes_eq}
use Rattle.diversions.specs.Lines.{lines_in}
use Rattle.stat_overrides.specs.Words.{cut_at, id_in}
use Rattle.stat_overrides.specs.declared.lines.Owner.{Owner}
use Rattle.stat_overrides.specs.declared.lines.Owner.TheVariants.{Number, Name}

-- the third part of a line, by what stands behind the first
abbrev pub number_behind : List ℕ → Option ℕ
number_behind rest = option_and_then (λ x. option_and_then (λ n. id_in n.0) (cut_at 58 x.1)) (cut_at 58 rest)

-- the number that a line gives a name
abbrev pub number_at : List ℕ → List ℕ → Option ℕ
number_at line name = option_and_then (λ own. if bytes_eq own.0 name then number_behind own.1 else None) (cut_at 58 line)

abbrev pub or_else : Option ℕ → Option ℕ → Option ℕ
or_else None other = other
or_else (Some number) other = Some number

-- the number of the first line that gives the name one
abbrev pub number_in : List (List ℕ) → List ℕ → Option ℕ
number_in [] name = None
number_in (line ∷ lines) name = or_else (number_at line name) (number_in lines name)

-- the number of an owner
abbrev pub id_of : List ℕ → Owner → Option ℕ
id_of text (Number number) = Some number
id_of text (Name name) = number_in (lines_in text) name
