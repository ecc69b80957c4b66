-- Which paths of archives are hidden: `--path-exclude PATTERN` and `--path-include PATTERN`, in the order in which they stand.
use Rattle.std.specs.Prelude.{◌&&◌, ◌++◌, Bool, true, false, List, [], ◌∷◌, Option, Some, None, codes, fold, if◌then◌else◌}
use Rattle.std.specs.List.{list_all}
use Rattle.std.specs.Str.{bytes_eq}
use Rattle.clap.specs.Words.{Row, Text, all_of}
use Rattle.name_patterns.specs.Patterns.{is_readable}
use Rattle.path_filters.specs.declared.filters.Filter.{Filter}
use Rattle.command_words.specs.Frontends.{behind}
use Rattle.command_words.specs.declared.filters.Filtering.{Filtering}

abbrev pub are_readable : Option (List Text) → Bool
are_readable None = true
are_readable (Some texts) = list_all is_readable texts

-- each pattern that is given to a subcommand can be read
abbrev pub has_filters : List Row → Bool
has_filters rows = are_readable (all_of (codes "path-exclude") rows) && are_readable (all_of (codes "path-include") rows)

-- before the first word
abbrev pub begun : Filtering
begun = record { wants = None; ended = false; filters = [] }

-- a filter more
abbrev pub with_filter : Filtering → Bool → Text → Filtering
with_filter s includes pattern = record s { wants = None; filters = s.filters ++ record { includes = includes; pattern = pattern } ∷ [] }

-- one of the two with its pattern behind `=`, or another word
abbrev pub attached : Filtering → Option Text → Option Text → Filtering
attached s (Some pattern) include = with_filter s false pattern
attached s None (Some pattern) = with_filter s true pattern
attached s None None = s

-- a word that is no pattern, or that the word before it wants as one
abbrev pub filtered_at : Option Bool → Filtering → Text → Filtering
filtered_at (Some includes) s word = with_filter s includes word
filtered_at None s word =
    if bytes_eq word (codes "--") then record s { ended = true }
    else if bytes_eq word (codes "--path-exclude") then record s { wants = Some false }
    else if bytes_eq word (codes "--path-include") then record s { wants = Some true }
    else attached s (behind (codes "--path-exclude=") word) (behind (codes "--path-include=") word)

abbrev pub filtered : Filtering → Text → Filtering
filtered s word = if s.ended then s else filtered_at s.wants s word

-- the filters, which stand before `--`
abbrev pub filters_of : List Text → List Filter
filters_of words = (fold filtered begun words).filters
