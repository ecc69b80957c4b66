-- How what would stand at a path differs from what stands there.
use Rattle.std.specs.Prelude.{◌≡◌, ◌⊎◌, ℕ, Bool, true, false, List, Option, Some, None, codes, if◌then◌else◌}
use Rattle.std.specs.List.{count_by}
use Rattle.host_core.specs.Nodes.{same_node}
use Rattle.host_core.specs.Paths.{Path}
use Rattle.host_core.specs.World.{World}
use Rattle.host_core.specs.declared.node.Node.{Node}
use Rattle.administration.specs.Places.{home_path, is_within}
use Rattle.foretold_changes.specs.declared.change.Change.{Change}
use Rattle.foretold_changes.specs.declared.change.Change.TheVariants.{Write, Replace, Remove, Unread}
use Rattle.foretold_changes.specs.declared.looking.LookedPath.{LookedPath}

-- nothing stood there, or nothing stands there now, or something else
abbrev pub change_of : Option Node → Option Node → Option Change
change_of None None = None
change_of None (Some node) = Some Write
change_of (Some node) None = Some Remove
change_of (Some old) (Some new) = if same_node old new then None else Some Replace

-- what is in the administration isn't told
abbrev pub change_at : World → World → Path → Option Change
change_at old new path = if is_within home_path path then None else change_of (old path) (new path)

-- what a look told: how it differs, or that there is no knowing
abbrev pub IsFound : World → World → LookedPath → Type 0
IsFound old new l = (l.found ≡ change_at old new l.path) ⊎ (l.found ≡ Some Unread)

abbrev pub is_unread : Option Change → Bool
is_unread None = false
is_unread (Some Write) = false
is_unread (Some Replace) = false
is_unread (Some Remove) = false
is_unread (Some Unread) = true

-- of how many paths there is no knowing
abbrev pub unread_paths : List LookedPath → ℕ
unread_paths looked = count_by (λ l. is_unread l.found) looked

abbrev pub change_word : Change → List ℕ
change_word Write = codes "write"
change_word Replace = codes "replace"
change_word Remove = codes "remove"
change_word Unread = codes "unread"
