-- Who is told beside the lines: programs that read a descriptor (`--status-fd N`), and a log (`--log FILE`).
use Rattle.std.specs.Prelude.{◌&&◌, ◌||◌, ◌++◌, Bool, true, false, not, List, [], ◌∷◌, Option, Some, None, codes, fold, if◌then◌else◌, length, nat_eq, nat_le, nat_lt, option_to_list}
use Rattle.std.specs.Char.{is_ascii_digit}
use Rattle.std.specs.List.{list_all, starts_with}
use Rattle.std.specs.Str.{bytes_eq}
use Rattle.clap.specs.Words.{Row, Text, all_of}
use Rattle.command_words.specs.declared.frontends.Scan.{Scan}

-- no zero stands before other digits
abbrev pub is_plain_number : Text → Bool
is_plain_number text = bytes_eq text (codes "0") || not (starts_with nat_eq text (codes "0"))

-- the number of a descriptor: one to nine decimal digits
abbrev pub is_descriptor : Text → Bool
is_descriptor text = list_all is_ascii_digit text && is_plain_number text && nat_lt 0 (length text) && nat_le (length text) 9

abbrev pub are_descriptors : Option (List Text) → Bool
are_descriptors None = true
are_descriptors (Some texts) = list_all is_descriptor texts

-- each descriptor that is given to a subcommand is a number
abbrev pub has_descriptors : List Row → Bool
has_descriptors rows = are_descriptors (all_of (codes "status-fd") rows)

-- what stands behind a front
abbrev pub behind : Text → Text → Option Text
behind [] text = Some text
behind (c ∷ front) [] = None
behind (c ∷ front) (d ∷ text) = if nat_eq c d then behind front text else None

-- before the first word
abbrev pub begun : Scan
begun = record { wants = false; ended = false; values = [] }

-- what a word is behind an option that wants its value, or is itself: the option, one with its value behind `=`, or none of these
abbrev pub scanned : Text → Scan → Text → Scan
scanned option s word =
    if s.ended then s
    else if s.wants then record s { wants = false; values = s.values ++ word ∷ [] }
    else if bytes_eq word (codes "--") then record s { ended = true }
    else if bytes_eq word option then record s { wants = true }
    else record s { values = s.values ++ option_to_list (behind (option ++ codes "=") word) }

-- the values of an option, which stand before `--`
abbrev pub values_of : Text → List Text → List Text
values_of option words = (fold (scanned option) begun words).values

-- the descriptors on which programs are told
abbrev pub status_fds_of : List Text → List Text
status_fds_of words = values_of (codes "--status-fd") words

-- the files that are written as a log: one at most, in words that ask for something
abbrev pub logs_of : List Text → List Text
logs_of words = values_of (codes "--log") words
