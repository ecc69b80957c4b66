-- To whom words give the paths that trees ship.
use Rattle.std.specs.Prelude.{Bool, List, codes, if◌then◌else◌}
use Rattle.clap.specs.Words.{Row, first_of}
use Rattle.command_words.specs.Given.{is_set}
use Rattle.command_words.specs.declared.owners.TreeOwners.{TreeOwners}
use Rattle.command_words.specs.declared.owners.TreeOwners.TheVariants.{Kept, Root}

-- to root, or to those that the trees have them with
abbrev pub owners_from : Bool → TreeOwners
owners_from root = if root then Root else Kept

abbrev pub owners_of : List Row → TreeOwners
owners_of rows = owners_from (is_set (first_of (codes "owner-root") rows))
