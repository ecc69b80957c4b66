-- What words force where a conffile can be settled in more than one way, and of what packages depend on.
use Rattle.std.specs.Prelude.{Bool, ◌&&◌, List, Option, Some, None, codes, if◌then◌else◌}
use Rattle.clap.specs.Words.{Row, Text, first_of}
use Rattle.command_words.specs.Given.{is_set}
use Rattle.command_words.specs.declared.forced.Forced.{Forced}

-- where both changed a conffile, the administrator's (confold) and the package's (confnew) can't both win; without either the administrator's does
abbrev pub forced_from : Bool → Bool → Bool → Bool → Option Forced
forced_from confold confnew confmiss depends =
    if confold && confnew then None else Some (record { confnew = confnew; confmiss = confmiss; depends = depends })

abbrev pub is_forced : Text → List Row → Bool
is_forced flag rows = is_set (first_of flag rows)

-- Depends and Pre-Depends are ignored
abbrev pub depends_forced : List Row → Bool
depends_forced rows = is_forced (codes "force-depends") rows

abbrev pub forced_of : List Row → Option Forced
forced_of rows = forced_from (is_forced (codes "force-confold") rows) (is_forced (codes "force-confnew") rows) (is_forced (codes "force-confmiss") rows) (depends_forced rows)
