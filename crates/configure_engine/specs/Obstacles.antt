-- What is in the way of settling conffiles.
use Rattle.std.specs.Prelude.{◌≡◌, true, false, cond, List, Option, Some, None, Contains}
use Rattle.std.specs.List.{flat_map}
use Rattle.host_core.specs.Paths.{Path}
use Rattle.host_core.specs.World.{World}
use Rattle.conffiles.specs.Settling.{is_other, ordered_names}
use Rattle.status_records.specs.ConffilePaths.{is_before}

-- the names at which the files of these conffiles stand
abbrev pub names_of_all : List Path → List Path
names_of_all paths = flat_map ordered_names paths

-- of these names the smallest at which something else than a file stands
pub record IsSmallestOther (w : World) (names : List Path) (found : Path) : Type 0 where
  pub among : Contains names found
  pub other : is_other (w found) ≡ true
  pub least : (q : Path) → Contains names q → is_other (w q) ≡ true → is_before q found ≡ false

-- the smallest, or none where at each of them a file stands or nothing
abbrev pub IsObstacle : World → List Path → Option Path → Type 0
IsObstacle w names None = (q : Path) → Contains names q → is_other (w q) ≡ false
IsObstacle w names (Some found) = IsSmallestOther w names found

-- the smaller of two names
abbrev pub lesser_of : Option Path → Path → Option Path
lesser_of None found = Some found
lesser_of (Some least) found = cond (is_before found least) (Some found) (Some least)
