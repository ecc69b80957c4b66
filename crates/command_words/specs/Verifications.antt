-- What words ask of packages that are verified.
use Rattle.std.specs.Prelude.{◌&&◌, ◌==◌, Bool, true, false, List, length, Option, Some, None, codes, if◌then◌else◌}
use Rattle.clap.specs.Words.{Row, Text, all_of, first_of}
use Rattle.command_words.specs.Given.{all_given, is_absolute}
use Rattle.command_words.specs.Owners.{owners_of}
use Rattle.command_words.specs.declared.owners.TreeOwners.{TreeOwners}
use Rattle.command_words.specs.declared.owners.TreeOwners.TheVariants.{Kept, Root}
use Rattle.command_words.specs.declared.verifying.Verifying.{Verifying}

-- beside a tree no package is named, and to its paths alone owners are given
abbrev pub is_fitting : List Text → Option Text → TreeOwners → Bool
is_fitting names (Some tree) owners = length names == 0
is_fitting names None Kept = true
is_fitting names None Root = false

-- packages to be verified under an absolute root, of which no names stand for all, or that of a tree
abbrev pub verifying_from : Option Text → List Text → Option Text → TreeOwners → Option Verifying
verifying_from None names tree owners = None
verifying_from (Some root) names tree owners =
    if is_absolute root && is_fitting names tree owners then Some (record { root = root; names = names; tree = tree; owners = owners }) else None

abbrev pub verifying_of : List Row → Option Verifying
verifying_of rows = verifying_from (first_of (codes "root") rows) (all_given (all_of (codes "PKG") rows)) (first_of (codes "tree") rows) (owners_of rows)
