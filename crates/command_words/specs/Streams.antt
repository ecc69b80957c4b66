-- Where words send what maintainer scripts write.
use Rattle.std.specs.Prelude.{Bool, List, codes, if◌then◌else◌}
use Rattle.clap.specs.Words.{Row, first_of}
use Rattle.command_words.specs.Given.{is_set}
use Rattle.command_words.specs.declared.streams.ScriptStreams.{ScriptStreams}
use Rattle.command_words.specs.declared.streams.ScriptStreams.TheVariants.{Own, Error}

-- to standard error both streams, or each to the program's own
abbrev pub streams_from : Bool → ScriptStreams
streams_from to_error = if to_error then Error else Own

abbrev pub streams_of : List Row → ScriptStreams
streams_of rows = streams_from (is_set (first_of (codes "scripts-stderr") rows))
