-- Options that stand in a text (dpkg.cfg(5)): one a line, without its dashes, its value behind a sign or blanks.
use Rattle.std.specs.Prelude.{◌++◌, List, [], ◌∷◌, codes, flat_map, if◌then◌else◌}
use Rattle.std.specs.Str.{bytes_eq}
use Rattle.dpkg_words.specs.Options.{Text}
use Rattle.dpkg_words.specs.Selections.{between, is_remark, words_of}

abbrev pub plain_option : Text → Text
plain_option name = codes "--" ++ name

abbrev pub valued_option : Text → Text → Text
valued_option name value = codes "--" ++ (name ++ (codes "=" ++ value))

-- one that no option is called: it has a blank in it
abbrev pub odd_option : Text → Text → Text
odd_option name word = codes "--" ++ (name ++ (codes " " ++ word))

-- the option of a line, by the words between its blanks; a value has no blanks in it
abbrev pub option_by : List Text → List Text
option_by [] = []
option_by (name ∷ []) = plain_option name ∷ []
option_by (name ∷ value ∷ []) = valued_option name value ∷ []
option_by (name ∷ sign ∷ value ∷ []) = if bytes_eq sign (codes "=") then valued_option name value ∷ [] else odd_option name sign ∷ []
option_by (name ∷ sign ∷ value ∷ other ∷ more) = odd_option name sign ∷ []

abbrev pub option_in : List Text → List Text
option_in words = if is_remark words then [] else option_by words

-- what the lines of a text say
abbrev pub options_of : List Text → List Text
options_of lines = flat_map (λ line. option_in (words_of line)) lines

unfoldable pub options_in : Text → List Text
options_in text = options_of (between 10 text)

-- options stand between the program's name and what else is said
abbrev pub with_options : List Text → List Text → List Text
with_options options [] = []
with_options options (name ∷ words) = name ∷ (options ++ words)
