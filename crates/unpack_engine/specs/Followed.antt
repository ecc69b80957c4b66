-- Links to directories, looked at again behind the scripts that are called before the files of a unit.
use Rattle.std.specs.Prelude.{◌≡◌, ◌⊎◌, ◌++◌, ◌&&◌, Bool, List, codes, cond, map, not}
use Rattle.std.specs.List.{AllByRecursion}
use Rattle.std.specs.Str.{bytes_eq}
use Rattle.aliases.specs.Aliases.{Alias, is_alias, resolved, way_to}
use Rattle.aliases.specs.Reading.{AreAliasesIn}
use Rattle.diversions.specs.Diverted.{Diverted}
use Rattle.diversions.specs.Ways.{Ways}
use Rattle.diversions.specs.declared.entry.Diversion.{Diversion}
use Rattle.file_lists.specs.Followed.{AreFollowed, AreWhole, diverted_paths}
use Rattle.file_lists.specs.declared.paths.PackageList.{PackageList}
use Rattle.host_core.specs.Paths.{Path, is_path}
use Rattle.host_core.specs.World.{World}

-- the path above which links are looked at for this one: where a link is known to stand at it, one below it
abbrev pub in_hand : List Alias → Path → Path
in_hand aliases path = cond (is_alias aliases (way_to aliases path) && is_path (path ++ codes "/x")) (path ++ codes "/x") path

-- the paths that a unit has in hand: those that it ships, those that its package lists, and those of diversions
abbrev pub paths_in_hand : List Alias → (union : List Path) → List Diversion → List Path
paths_in_hand aliases union entries = map (in_hand aliases) union ++ diverted_paths entries

-- whether a path lies elsewhere by the one than by the other aliases
abbrev pub lies_elsewhere : List Alias → List Alias → Path → Bool
lies_elsewhere aliases others path = not (bytes_eq (resolved aliases path) (resolved others path))

-- by these aliases each of the paths lies where the links of the world lead
pub record LieAsLinked (w : World) (paths : List Path) (aliases : List Alias) : Type 0 where
  pub found : List Alias
  pub sound : AreAliasesIn w found
  pub whole : AreWhole w paths found
  pub same : AllByRecursion (λ path. resolved aliases path ≡ resolved found path) paths

-- The links were looked at again. Where all paths in hand lie as they did, the aliases are those of before; else they were read anew, above
-- all listed paths too.
pub record AreFollowedAgain (lists : List PackageList) (paths : List Path) (first late : Ways) (w : World) : Type 0 where
  pub linked : LieAsLinked w paths late.aliases
  pub anew : (late.aliases ≡ first.aliases) ⊎ AreFollowed lists late w

-- a table with the entries of another; its aliases stay
abbrev pub with_entries_of : Diverted → Diverted → Diverted
with_entries_of read held = record held { ways = record held.ways { entries = read.ways.entries } }

-- a table with the aliases of another; its entries stay
abbrev pub with_aliases_of : Diverted → Diverted → Diverted
with_aliases_of read held = record held { ways = record held.ways { aliases = read.ways.aliases } }
