-- What words ask of trees.
use Rattle.std.specs.Prelude.{Bool, ℕ, List, Option, Some, None, codes, if◌then◌else◌}
use Rattle.clap.specs.Words.{Row, Text, all_of, first_of}
use Rattle.command_words.specs.Forced.{forced_of}
use Rattle.command_words.specs.Given.{is_absolute, is_set}
use Rattle.command_words.specs.Limits.{limit_of}
use Rattle.command_words.specs.Owners.{owners_of}
use Rattle.command_words.specs.Streams.{streams_of}
use Rattle.command_words.specs.Triggers.{processes_triggers}
use Rattle.command_words.specs.Waits.{wait_of}
use Rattle.command_words.specs.declared.forced.Forced.{Forced}
use Rattle.command_words.specs.declared.owners.TreeOwners.{TreeOwners}
use Rattle.command_words.specs.declared.streams.ScriptStreams.{ScriptStreams}
use Rattle.command_words.specs.declared.unpacking.Unpacking.{Unpacking}

-- an absolute root, and trees, in favour of whose packages others may be deconfigured or not, whose paths become someone's, and
-- whose scripts write somewhere; whether triggers are processed, how many units may fail, and whether the trees are taken as given; and
-- for how long another program's lock is waited for
abbrev pub unpacking_from : Option Text → Option (List Text) → Bool → TreeOwners → ScriptStreams → Bool → Option (Option ℕ) → Option Forced → Bool → Option ℕ → Option Unpacking
unpacking_from (Some root) (Some trees) auto_deconfigure owners streams triggers (Some limit) (Some forced) as_given (Some wait) =
    if is_absolute root
    then Some (record { root = root; trees = trees; auto_deconfigure = auto_deconfigure; owners = owners; streams = streams; triggers = triggers; limit = limit; forced = forced; as_given = as_given; wait = wait })
    else None
unpacking_from _ _ _ _ _ _ _ _ _ _ = None

abbrev pub may_deconfigure : List Row → Bool
may_deconfigure rows = is_set (first_of (codes "auto-deconfigure") rows)

abbrev pub are_as_given : List Row → Bool
are_as_given rows = is_set (first_of (codes "as-given") rows)

abbrev pub unpacking_of : List Row → Option Unpacking
unpacking_of rows = unpacking_from (first_of (codes "root") rows) (all_of (codes "TREE") rows) (may_deconfigure rows) (owners_of rows) (streams_of rows) (processes_triggers rows) (limit_of rows) (forced_of rows) (are_as_given rows) (wait_of rows)
