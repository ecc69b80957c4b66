-- What the words of a command line ask for.
use Rattle.std.specs.Prelude.{◌&&◌, List, [], ◌∷◌, length, Option, Some, None, option_and_then, option_map, codes, if◌then◌else◌, nat_le}
use Rattle.std.specs.Option.{option_or}
use Rattle.std.specs.Str.{bytes_eq}
use Rattle.clap.specs.Words.{Kinds, Row, Text, fault_of, first_of, subcommand_of}
use Rattle.command_words.specs.CommandLine.{whole_app}
use Rattle.command_words.specs.Comparisons.{operator_of}
use Rattle.command_words.specs.Queries.{query_of}
use Rattle.command_words.specs.Diversions.{diverting_of, undiverting_of}
use Rattle.command_words.specs.Filters.{has_filters}
use Rattle.command_words.specs.Frontends.{has_descriptors}
use Rattle.command_words.specs.Packages.{configuring_of, removing_of}
use Rattle.command_words.specs.Selecting.{removing_selected_of, selecting_of}
use Rattle.command_words.specs.Triggers.{is_of_triggers_only, processing_of}
use Rattle.command_words.specs.Topics.{has_help_flag, is_help_flag, topic_in, topic_of}
use Rattle.command_words.specs.declared.help.Topic.TheVariants.{Program}
use Rattle.command_words.specs.Unpacks.{unpacking_of}
use Rattle.command_words.specs.Verifications.{verifying_of}
use Rattle.command_words.specs.Rehearsals.{Rehearsed, is_rehearsable, rehearsal_in, rehearsed}
use Rattle.command_words.specs.declared.comparison.Comparison.{Comparison}
use Rattle.command_words.specs.declared.words.Asked.{Asked}
use Rattle.command_words.specs.declared.words.Command.{Command}
use Rattle.command_words.specs.declared.words.Compared.{Compared}
use Rattle.command_words.specs.declared.words.Asked.TheVariants.{Names, Version, Help, CompareVersions, Divert, Undivert, Unpack, Install, Configure, ProcessTriggers, Remove, Purge, Select, RemoveSelected, Query, Verify}

-- the subcommand that the words enter, with the texts of its arguments
abbrev pub entered : List Text → Option (Text × List Row)
entered words = subcommand_of whole_app words

-- the comparison of texts that clap found
abbrev pub comparison_in : Compared → Comparison
comparison_in c = record { first = c.first.now; operator = c.operator; second = c.second.now }

-- two texts with the word of an operator between them
abbrev pub comparison_from : Option Text → Option Text → Option Text → Option Comparison
comparison_from (Some first) (Some word) (Some second) =
    option_map (λ operator. record { first = first; operator = operator; second = second }) (operator_of word)
comparison_from _ _ _ = None

abbrev pub comparison_of : List Row → Option Comparison
comparison_of rows = comparison_from (first_of (codes "A") rows) (first_of (codes "OP") rows) (first_of (codes "B") rows)

-- packages to be configured, or triggers alone to be processed
abbrev pub configure_asked : List Row → Option Asked
configure_asked rows = if is_of_triggers_only rows then option_map ProcessTriggers (processing_of rows) else option_map Configure (configuring_of rows)

-- what a subcommand asks for with these texts
abbrev pub asked_by : Text → List Row → Option Asked
asked_by name rows =
    if bytes_eq name (codes "compare-versions") then option_map CompareVersions (comparison_of rows)
    else if bytes_eq name (codes "configure") then configure_asked rows
    else if bytes_eq name (codes "divert") then option_map Divert (diverting_of rows)
    else if bytes_eq name (codes "help") then option_map Help (topic_in (first_of (codes "COMMAND") rows))
    else if bytes_eq name (codes "install") then option_map Install (unpacking_of rows)
    else if bytes_eq name (codes "purge") then option_map Purge (removing_of rows)
    else if bytes_eq name (codes "remove") then option_map Remove (removing_of rows)
    else if bytes_eq name (codes "remove-selected") then option_map RemoveSelected (removing_selected_of rows)
    else if bytes_eq name (codes "select") then option_map Select (selecting_of rows)
    else if bytes_eq name (codes "undivert") then option_map Undivert (undiverting_of rows)
    else if bytes_eq name (codes "unpack") then option_map Unpack (unpacking_of rows)
    else if bytes_eq name (codes "verify") then option_map Verify (verifying_of rows)
    else option_map Query (query_of name rows)

-- and only where it can be carried out, or rehearsed, with them
abbrev pub asked_with : Text → List Row → Option Asked
asked_with name rows = if has_descriptors rows && has_filters rows && is_rehearsable rows then asked_by name rows else None

abbrev pub asked_in : Option (Text × List Row) → Option Asked
asked_in sub = option_and_then (λ p. asked_with p.0 p.1) sub

-- its rehearsal, where it is only rehearsed
abbrev pub rehearsed_in : Option (Text × List Row) → Option Rehearsed
rehearsed_in sub = option_and_then (λ p. rehearsal_in p.1) sub

-- only words in which clap finds no fault ask for anything
abbrev pub unless_faulty : Kinds → Option Asked → Option Asked
unless_faulty [] asked = asked
unless_faulty (kind ∷ kinds) asked = None

-- what words ask for as a subcommand with its arguments
unfoldable pub parsed_of : List Text → Option Asked
parsed_of words = unless_faulty (fault_of whole_app words) (asked_in (entered words))

-- what a flag in the place of a subcommand or behind one asks for: the version, or help on the program or the subcommand
abbrev pub flagged_by : Text → List Text → Option Asked
flagged_by word rest =
    if bytes_eq word (codes "--version") then Some Version
    else if is_help_flag word then Some (Help Program)
    else if has_help_flag rest then option_map Help (topic_of word)
    else None

abbrev pub flagged : List Text → Option Asked
flagged [] = None
flagged (program ∷ []) = None
flagged (program ∷ word ∷ rest) = flagged_by word rest

-- What the words ask for, the first of which is the program's name. A usage fault asks for nothing.
unfoldable pub asked_of : List Text → Option Asked
asked_of words =
    if nat_le (length words) 1 then Some Names
    else option_or (flagged words) (parsed_of words)

-- what a command has of it
abbrev pub rehearsal_with : Command → Option Rehearsed
rehearsal_with c = option_map rehearsed c.rehearsal

-- what is said of a rehearsal beside the flag that asks for the version or help
abbrev pub unless_flagged : Option Asked → Option Rehearsed → Option Rehearsed
unless_flagged None rehearsal = rehearsal
unless_flagged (Some asked) rehearsal = None

abbrev pub rehearsed_beside : Option Asked → List Text → Option Rehearsed
rehearsed_beside None words = None
rehearsed_beside (Some asked) words =
    if nat_le (length words) 1 then None
    else unless_flagged (flagged words) (rehearsed_in (entered words))

-- The rehearsal, where what the words ask for is only rehearsed; words that ask for nothing rehearse nothing.
unfoldable pub rehearsal_of : List Text → Option Rehearsed
rehearsal_of words = rehearsed_beside (asked_of words) words
