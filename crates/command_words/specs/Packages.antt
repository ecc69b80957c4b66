-- What words ask of packages by their names, which may be any texts.
use Rattle.std.specs.Prelude.{Bool, ℕ, List, Option, Some, None, codes, if◌then◌else◌}
use Rattle.clap.specs.Words.{Row, Text, all_of, first_of}
use Rattle.command_words.specs.Forced.{depends_forced, forced_of}
use Rattle.command_words.specs.Given.{is_absolute}
use Rattle.command_words.specs.Limits.{limit_of}
use Rattle.command_words.specs.Streams.{streams_of}
use Rattle.command_words.specs.Triggers.{processes_triggers}
use Rattle.command_words.specs.Waits.{wait_of}
use Rattle.command_words.specs.declared.forced.Forced.{Forced}
use Rattle.command_words.specs.declared.packages.Configuring.{Configuring}
use Rattle.command_words.specs.declared.packages.Removing.{Removing}
use Rattle.command_words.specs.declared.streams.ScriptStreams.{ScriptStreams}

abbrev pub names_of : List Row → Option (List Text)
names_of rows = all_of (codes "PKG") rows

-- packages to be configured under an absolute root, or all where none is named; triggers are processed then, or let be; and how many
-- units may fail
abbrev pub configuring_from : Option Text → Option (List Text) → ScriptStreams → Bool → Option (Option ℕ) → Option Forced → Option ℕ → Option Configuring
configuring_from (Some root) names streams triggers (Some limit) (Some forced) (Some wait) =
    if is_absolute root then Some (record { root = root; names = names; streams = streams; triggers = triggers; limit = limit; forced = forced; wait = wait }) else None
configuring_from _ _ _ _ _ _ _ = None

abbrev pub configuring_of : List Row → Option Configuring
configuring_of rows = configuring_from (first_of (codes "root") rows) (names_of rows) (streams_of rows) (processes_triggers rows) (limit_of rows) (forced_of rows) (wait_of rows)

-- packages to be removed or purged under an absolute root; triggers and failures likewise; whether it is ignored that others depend on them
abbrev pub removing_from : Option Text → Option (List Text) → ScriptStreams → Bool → Option (Option ℕ) → Bool → Option ℕ → Option Removing
removing_from (Some root) (Some names) streams triggers (Some limit) ignore_depends (Some wait) =
    if is_absolute root then Some (record { root = root; names = names; streams = streams; triggers = triggers; limit = limit; ignore_depends = ignore_depends; wait = wait }) else None
removing_from _ _ _ _ _ _ _ = None

abbrev pub removing_of : List Row → Option Removing
removing_of rows = removing_from (first_of (codes "root") rows) (names_of rows) (streams_of rows) (processes_triggers rows) (limit_of rows) (depends_forced rows) (wait_of rows)
