-- What words ask of diversions.
use Rattle.std.specs.Prelude.{ℕ, Bool, true, false, List, Option, Some, None, option_map, codes, if◌then◌else◌}
use Rattle.texts.specs.PackageNames.{is_package_name}
use Rattle.clap.specs.Words.{Row, Text, first_of}
use Rattle.command_words.specs.Given.{is_absolute, is_set}
use Rattle.command_words.specs.Waits.{wait_of}
use Rattle.command_words.specs.declared.diverting.Diverting.{Diverting}
use Rattle.command_words.specs.declared.diverting.Undiverting.{Undiverting}

-- whose diversion is asked for: that of the package of a name or a local one, but not both
abbrev pub owner_from : Option Text → Bool → Option (Option Text)
owner_from (Some name) false = if is_package_name name then Some (Some name) else None
owner_from (Some name) true = None
owner_from None true = Some None
owner_from None false = None

abbrev pub owner_of : List Row → Option (Option Text)
owner_of rows = owner_from (first_of (codes "package") rows) (is_set (first_of (codes "local") rows))

-- an owner's diversion of a path, under an absolute root
abbrev pub undiverting_from : Option Text → Option (Option Text) → Bool → Option Text → Option ℕ → Option Undiverting
undiverting_from (Some root) (Some owner) rename (Some path) (Some wait) =
    if is_absolute root then Some (record { root = root; owner = owner; rename = rename; path = path; wait = wait }) else None
undiverting_from _ _ _ _ _ = None

abbrev pub undiverting_of : List Row → Option Undiverting
undiverting_of rows = undiverting_from (first_of (codes "root") rows) (owner_of rows) (is_set (first_of (codes "rename") rows)) (first_of (codes "PATH") rows) (wait_of rows)

-- the same, with the target if one is given
abbrev pub with_target : Option Text → Undiverting → Diverting
with_target target u = record { root = u.root; owner = u.owner; target = target; rename = u.rename; path = u.path; wait = u.wait }

abbrev pub diverting_of : List Row → Option Diverting
diverting_of rows = option_map (with_target (first_of (codes "divert") rows)) (undiverting_of rows)
