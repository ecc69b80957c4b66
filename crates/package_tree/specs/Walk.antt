-- A walk through a tree, path by path in path order.
use Rattle.std.specs.Prelude.{◌≡◌, ◌⊎◌, ◌&&◌, ◌∷◌, ◌++◌, [], not, Bool, true, false, List, IsSome, Contains}
use Rattle.std.specs.List.{list_any}
use Rattle.std.specs.Str.{bytes_eq}
use Rattle.host_core.specs.Paths.{Path, is_path, has_room}
use Rattle.host_core.specs.Tree.{IsBelow, has_slash}
use Rattle.host_core.specs.World.{World}
use Rattle.administration.specs.Directories.{HasBadName}
use Rattle.package_tree.specs.Shipped.{is_control, IsBefore, StandsBeside, IsShipped, IsLeftOut}
use Rattle.package_tree.specs.declared.walk.Sight.{Sight}
use Rattle.package_tree.specs.declared.walk.Sight.TheVariants.{Bad, Shipped, LeftOut}

-- whether a path is that of a name in a directory, and is to be looked at
abbrev pub is_child_of : Path → Path → Path → Bool
is_child_of dir q name = is_path q && (not (is_control q) && bytes_eq (dir ++ 47 ∷ name) q)

abbrev pub is_child : Path → List Path → Path → Bool
is_child dir names q = list_any (is_child_of dir q) names

-- what stands in a directory is to be looked at too
pub record SeesTo (w : World) (dir : Path) (old new : Path → Bool) : Type 0 where
  pub kept : (q : Path) → old q ≡ true → new q ≡ true
  pub only : (q : Path) → new q ≡ true → (old q ≡ true) ⊎ (IsBelow dir q × IsSome (w q))
  pub each : (name : Path) → has_slash name ≡ false → is_control (dir ++ 47 ∷ name) ≡ false → IsSome (w (dir ++ 47 ∷ name)) → new (dir ++ 47 ∷ name) ≡ true

-- what is to be looked at more is a path in the directory, beside `DEBIAN`
abbrev pub AreChildren : Path → (Path → Bool) → (Path → Bool) → Type 0
AreChildren dir old new = (q : Path) → new q ≡ true → (old q ≡ true) ⊎ (IsBelow dir q × (is_path q ≡ true) × (is_control q ≡ false))

-- what is wrong with a path at which something stands
abbrev pub IsBadHere : World → Path → Type 0
IsBadHere w q = (has_room q ≡ false) ⊎ HasBadName w q

-- a path was looked at, and what stands in it is to be looked at too
abbrev pub HasLooked : World → Path → (Path → Bool) → (Path → Bool) → Sight → Type 0
HasLooked w q old new Bad = IsBadHere w q
HasLooked w q old new Shipped = (IsBadHere w q → ⊥) × SeesTo w q old new × (IsLeftOut w q → ⊥)
HasLooked w q old new LeftOut = (IsBadHere w q → ⊥) × SeesTo w q old new × IsLeftOut w q

-- a path that is shipped joins those that were found
abbrev pub Takes : List Path → Path → Sight → List Path → Type 0
Takes old path Bad new = new ≡ old
Takes old path Shipped new = new ≡ old ++ path ∷ []
Takes old path LeftOut new = new ≡ old

-- A walk on its way: what was found is shipped and comes before what is to be looked at; each path is done with, or is at or
-- below one that is to be looked at.
pub record IsAmid (w : World) (found : List Path) (todo : Path → Bool) : Type 0 where
  pub sound : (q : Path) → Contains found q → IsShipped w q
  pub ahead : (q : Path) → todo q ≡ true → StandsBeside w q
  pub covered : (q : Path) → StandsBeside w q → ((IsShipped w q → Contains found q) × (IsBadHere w q → ⊥)) ⊎ ((a : Path) × (todo a ≡ true) × ((q ≡ a) ⊎ IsBelow a q))
  pub root : HasBadName w [] → ⊥

-- the same where the host may have lied
pub record IsOrderly (found : List Path) (todo : Path → Bool) : Type 0 where
  pub paths : (q : Path) → todo q ≡ true → is_path q ≡ true
  pub beside : (q : Path) → todo q ≡ true → is_control q ≡ false
  pub order : (p q : Path) → Contains found p → todo q ≡ true → IsBefore p q
