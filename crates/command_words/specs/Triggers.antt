-- Whether words let the triggers that are pending be processed, and where they ask for nothing else.
use Rattle.std.specs.Prelude.{Bool, true, not, ℕ, List, Option, Some, None, codes, if◌then◌else◌}
use Rattle.clap.specs.Words.{Row, Text, all_of, first_of}
use Rattle.command_words.specs.Forced.{forced_of}
use Rattle.command_words.specs.Given.{is_absolute, is_set}
use Rattle.command_words.specs.Limits.{limit_of}
use Rattle.command_words.specs.Streams.{streams_of}
use Rattle.command_words.specs.Waits.{wait_of}
use Rattle.command_words.specs.declared.forced.Forced.{Forced}
use Rattle.command_words.specs.declared.streams.ScriptStreams.{ScriptStreams}
use Rattle.command_words.specs.declared.triggers.ProcessingTriggers.{ProcessingTriggers}

-- they are processed, unless the flag lets them be
abbrev pub processes_triggers : List Row → Bool
processes_triggers rows = not (is_set (first_of (codes "no-triggers") rows))

-- nothing but that is asked for
abbrev pub is_of_triggers_only : List Row → Bool
is_of_triggers_only rows = is_set (first_of (codes "triggers-only") rows)

-- all triggers that are pending under an absolute root: no package is named, and no flag lets them be
abbrev pub processing_from : Option Text → Option (List Text) → ScriptStreams → Bool → Option (Option ℕ) → Option Forced → Option ℕ → Option ProcessingTriggers
processing_from (Some root) None streams true (Some limit) (Some forced) (Some wait) =
    if is_absolute root then Some (record { root = root; streams = streams; limit = limit; wait = wait }) else None
processing_from _ _ _ _ _ _ _ = None

abbrev pub processing_of : List Row → Option ProcessingTriggers
processing_of rows = processing_from (first_of (codes "root") rows) (all_of (codes "PKG") rows) (streams_of rows) (processes_triggers rows) (limit_of rows) (forced_of rows) (wait_of rows)
