-- What words ask of what is wanted of packages, whose names may be any texts.
use Rattle.std.specs.Prelude.{◌&&◌, Bool, ℕ, List, [], ◌∷◌, Option, Some, None, codes, flat_map, if◌then◌else◌, is_some, nat_eq, option_map, option_to_list}
use Rattle.std.specs.List.{list_all}
use Rattle.std.specs.Option.{option_or}
use Rattle.std.specs.Str.{bytes_eq}
use Rattle.clap.specs.Words.{Row, Text, all_of, first_of}
use Rattle.command_words.specs.Forced.{depends_forced}
use Rattle.command_words.specs.Given.{is_absolute}
use Rattle.command_words.specs.Limits.{limit_of}
use Rattle.command_words.specs.Streams.{streams_of}
use Rattle.command_words.specs.Triggers.{processes_triggers}
use Rattle.command_words.specs.Waits.{wait_of}
use Rattle.command_words.specs.declared.selecting.RemovingSelected.{RemovingSelected}
use Rattle.command_words.specs.declared.selections.Selected.{Selected}
use Rattle.command_words.specs.declared.selecting.Selecting.{Selecting}
use Rattle.command_words.specs.declared.selecting.Told.{Told}
use Rattle.command_words.specs.declared.selections.Wanted.{Wanted}
use Rattle.command_words.specs.declared.selections.Wanted.TheVariants.{Install, Hold, Deinstall, Purge}
use Rattle.command_words.specs.declared.streams.ScriptStreams.{ScriptStreams}

-- what stands before the last `=` (61), and what behind it
abbrev pub cut_at_last_equals : Text → Option (Text × Text)
cut_at_last_equals [] = None
cut_at_last_equals (c ∷ cs) =
    option_or (option_map (λ parts. (c ∷ parts.0, parts.1)) (cut_at_last_equals cs)) (if nat_eq c 61 then Some ([], cs) else None)

-- what is wanted of a package, by its word in the record
abbrev pub want_of : Text → Option Wanted
want_of word =
    if bytes_eq word (codes "deinstall") then Some Deinstall
    else if bytes_eq word (codes "hold") then Some Hold
    else if bytes_eq word (codes "install") then Some Install
    else if bytes_eq word (codes "purge") then Some Purge
    else None

-- what is told of a package in a text
abbrev pub told_of : Told → Selected
told_of t = record { name = t.name.now; want = t.want }

abbrev pub selected_from : Option (Text × Text) → Option Selected
selected_from None = None
selected_from (Some parts) = option_map (λ want. record { name = parts.0; want = want }) (want_of parts.1)

-- `PKG=WANT`
abbrev pub selected_in : Text → Option Selected
selected_in text = selected_from (cut_at_last_equals text)

abbrev pub are_selections : List Text → Bool
are_selections texts = list_all (λ text. is_some (selected_in text)) texts

-- what texts select
abbrev pub selections_in : List Text → List Selected
selections_in texts = flat_map (λ text. option_to_list (selected_in text)) texts

-- packages of which something is to be wanted under an absolute root, where each text says what
abbrev pub selecting_from : Option Text → Option (List Text) → Option ℕ → Option Selecting
selecting_from (Some root) (Some texts) (Some wait) =
    if is_absolute root && are_selections texts then Some (record { root = root; selections = selections_in texts; wait = wait }) else None
selecting_from _ _ _ = None

abbrev pub selecting_of : List Row → Option Selecting
selecting_of rows = selecting_from (first_of (codes "root") rows) (all_of (codes "PKG=WANT") rows) (wait_of rows)

-- the packages that are no longer wanted under an absolute root, to be removed or purged; triggers are processed then, or let be;
-- and how many units may fail
abbrev pub removing_selected_from : Option Text → ScriptStreams → Bool → Option (Option ℕ) → Bool → Option ℕ → Option RemovingSelected
removing_selected_from (Some root) streams triggers (Some limit) ignore_depends (Some wait) =
    if is_absolute root then Some (record { root = root; streams = streams; triggers = triggers; limit = limit; ignore_depends = ignore_depends; wait = wait }) else None
removing_selected_from _ _ _ _ _ _ = None

abbrev pub removing_selected_of : List Row → Option RemovingSelected
removing_selected_of rows = removing_selected_from (first_of (codes "root") rows) (streams_of rows) (processes_triggers rows) (limit_of rows) (depends_forced rows) (wait_of rows)
