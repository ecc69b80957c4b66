-- What `--set-selections` reads on standard input: a line `PKG WANT` for each package.
use Rattle.std.specs.Prelude.{ℕ, ◌==◌, ◌||◌, ◌++◌, Bool, true, false, not, suc, List, [], ◌∷◌, Option, Some, None, codes, filter, flat_map, if◌then◌else◌, length, nat_eq, option_map}
use Rattle.std.specs.List.{slice_split, starts_with}
use Rattle.std.specs.Str.{bytes_eq}
use Rattle.dpkg_words.specs.Arguments.{behind_dashes, plain_name}
use Rattle.dpkg_words.specs.Options.{Text}
use Rattle.dpkg_words.specs.Refusals.{line_fault}
use Rattle.dpkg_words.specs.declared.selections.Selected.{Selected}
use Rattle.dpkg_words.specs.declared.selections.Selected.TheVariants.{Ours, Nothing, Refused}

-- the pieces between newlines (10), spaces (32) or tabs (9)
abbrev pub between : ℕ → Text → List Text
between mark text = slice_split (λ byte. byte == mark) text

abbrev pub is_word : Text → Bool
is_word piece = not (length piece == 0)

-- the words of a line, between spaces and tabs
abbrev pub words_of : Text → List Text
words_of line = flat_map (λ piece. filter is_word (between 9 piece)) (between 32 line)

-- what can be wanted of a package
abbrev pub is_want : Text → Bool
is_want word =
    if bytes_eq word (codes "deinstall") then true
    else if bytes_eq word (codes "hold") then true
    else if bytes_eq word (codes "install") then true
    else if bytes_eq word (codes "purge") then true
    else false

-- a line without words, or whose first one begins with `#`
abbrev pub is_remark : List Text → Bool
is_remark [] = true
is_remark (word ∷ words) = starts_with nat_eq word (codes "#")

-- PKG and WANT
abbrev pub is_selection : List Text → Bool
is_selection (name ∷ want ∷ []) = is_want want
is_selection _ = false

abbrev pub is_readable_by : List Text → Bool
is_readable_by words = is_remark words || is_selection words

abbrev pub is_readable : Text → Bool
is_readable line = is_readable_by (words_of line)

-- the number of the first line that can't be read, where the first line is 1
abbrev pub bad_line : List Text → Option ℕ
bad_line [] = None
bad_line (line ∷ lines) = if is_readable line then option_map (λ n. suc n) (bad_line lines) else Some 1

-- as `select` takes it: `PKG=WANT`, without the architecture of all packages
abbrev pub selection_of : List Text → List Text
selection_of (name ∷ want ∷ []) = (plain_name name ++ (codes "=" ++ want)) ∷ []
selection_of _ = []

abbrev pub selected_by : List Text → List Text
selected_by words = if is_remark words then [] else selection_of words

-- what lines select
abbrev pub selections_in : List Text → List Text
selections_in lines = flat_map (λ line. selected_by (words_of line)) lines

-- behind the program's own words stands what is selected, if anything is
abbrev pub chosen : List Text → List Text → Selected
chosen front [] = Nothing
chosen front (selection ∷ selections) = Ours (behind_dashes front (selection ∷ selections))

-- nothing is selected where a line can't be read
abbrev pub unless_bad : Option ℕ → List Text → List Text → Selected
unless_bad (Some number) front lines = Refused (line_fault number)
unless_bad None front lines = chosen front (selections_in lines)

abbrev pub selected_from : List Text → List Text → Selected
selected_from front lines = unless_bad (bad_line lines) front lines

-- What a text selects, by the program's own words before what is selected.
unfoldable pub selecting_words : List Text → Text → Selected
selecting_words front text = selected_from front (between 10 text)
