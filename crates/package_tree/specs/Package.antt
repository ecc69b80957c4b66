-- How the parts of a package fit one another.
use Rattle.std.specs.Prelude.{◌≡◌, ◌≤◌, Bool, true, List, Contains, length}
use Rattle.std.specs.Str.{bytes_eq}
use Rattle.control_fields.specs.Names.{trim_end}
use Rattle.host_core.specs.Paths.{Path}
use Rattle.package_tree.specs.ShipMap.{paths_of, HasFileAt}
use Rattle.package_tree.specs.declared.shipped.Shipped.{Shipped}

-- the path ends in no blank
abbrev pub is_trimmed : Path → Bool
is_trimmed path = bytes_eq (trim_end path) path

abbrev pub AreTrimmed : List Path → Type 0
AreTrimmed paths = (q : Path) → Contains paths q → is_trimmed q ≡ true

-- each conffile is a shipped file, no path that is to go with the upgrade is shipped, and there are at most 65,536 paths
pub record AreFitting (files : List Shipped) (conffiles flagged : List Path) : Type 0 where
  pub shipped : (q : Path) → Contains conffiles q → HasFileAt files q
  pub gone : (q : Path) → Contains flagged q → Contains (paths_of files) q → ⊥
  pub few : length files ≤ 65536
  -- white space at the end of a line of `conffiles` isn't its path's
  pub trimmed : AreTrimmed conffiles
  pub trimmed_flagged : AreTrimmed flagged
