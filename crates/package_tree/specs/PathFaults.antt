-- What is wrong with the paths of a tree.
use Rattle.std.specs.Prelude.{◌≡◌, ◌⊎◌, ◌++◌, ◌∷◌, true, false, List, Option, Some, None, Contains}
use Rattle.std.specs.List.{AllByRecursion}
use Rattle.host_core.specs.Paths.{Path}
use Rattle.host_core.specs.World.{World}
use Rattle.package_tree.specs.Debian.{is_wrong, member_paths, HasNoneWrong}
use Rattle.package_tree.specs.Shipped.{AreShipped, IsBadBeside, IsBefore, IsReserved, is_reserved, HasNoPath}

-- something stands at a script's path, or at that of `conffiles`, that isn't a file
pub record IsWrongMember (w : World) (q : Path) : Type 0 where
  pub member : Contains member_paths q
  pub wrong : is_wrong (w q) ≡ true

-- a path is bad: in `DEBIAN` one of the files that are read isn't a file; beside it there is no room, or a name is bad
abbrev pub IsBadPath : World → Path → Type 0
IsBadPath w q = IsWrongMember w q ⊎ IsBadBeside w q

-- no path is bad, and none is reserved
pub record HasGoodPaths (w : World) : Type 0 where
  pub files : HasNoneWrong w member_paths
  pub beside : HasNoPath (IsBadBeside w)
  pub reserved : HasNoPath (IsReserved w)

-- no path is bad or reserved, and these are shipped
abbrev pub AreGoodPaths : World → List Path → Type 0
AreGoodPaths w paths = HasGoodPaths w × AreShipped w paths

-- of two paths, where there are two, the one that comes first
abbrev pub IsLesser : Option Path → Option Path → Option Path → Type 0
IsLesser None b lesser = lesser ≡ b
IsLesser (Some a) None lesser = lesser ≡ Some a
IsLesser (Some a) (Some b) lesser = ((lesser ≡ Some a) × (IsBefore b a → ⊥)) ⊎ ((lesser ≡ Some b) × IsBefore b a)

-- none of these paths is reserved
abbrev pub HasNoneReserved : List Path → Type 0
HasNoneReserved paths = AllByRecursion (λ q. is_reserved q ≡ false) paths

-- this is the first of them that is
pub record IsFirstReserved (paths : List Path) (path : Path) : Type 0 where
  pub front : List Path
  pub rest : List Path
  pub is : paths ≡ front ++ path ∷ rest
  pub reserved : is_reserved path ≡ true
  pub first : HasNoneReserved front
