-- The aliases of a world, and those that are read above a path.
use Rattle.std.specs.Prelude.{◌≡◌, ◌≢◌, Bool, true, false, IsTrue, cond, List, [], ◌++◌, Option, Some, None}
use Rattle.std.specs.List.{AllByRecursion}
use Rattle.host_core.specs.Paths.{Path}
use Rattle.host_core.specs.Tree.{IsBelow}
use Rattle.host_core.specs.World.{World}
use Rattle.host_core.specs.declared.node.Node.{Node}
use Rattle.host_core.specs.declared.node.Node.TheVariants.{File, Dir, Link}
use Rattle.aliases.specs.Aliases.{Alias, way_to, followed}
use Rattle.aliases.specs.Links.{node_at, leads_to}

-- whether a link is there
abbrev pub is_link : Option Node → Bool
is_link None = false
is_link (Some (File bytes access)) = false
is_link (Some (Dir access)) = false
is_link (Some (Link text)) = true

-- a link stands at the place of the alias, and leads to its directory
pub record IsAliasIn (w : World) (a : Alias) : Type 0 where
  pub link : is_link (node_at w a.place) ≡ true
  pub leads : leads_to w a.place ≡ Some a.target

abbrev pub AreAliasesIn : World → List Alias → Type 0
AreAliasesIn w aliases = AllByRecursion (IsAliasIn w) aliases

abbrev pub or_itself : Option Path → Path → Path
or_itself None path = path
or_itself (Some target) path = target

-- where a link to a directory leads in a world; any other path is itself
abbrev pub led_in : World → Path → Path
led_in w path = cond (is_link (node_at w path)) (or_itself (leads_to w path) path) path

-- a directory above a path, but not the root
abbrev pub IsAbove : Path → Path → Type 0
IsAbove q path = (q ≢ []) × IsBelow q path

-- the alias stands at a directory above the path, the aliases above that followed
abbrev pub StandsAbove : List Alias → Path → Alias → Type 0
StandsAbove aliases path a = (q : Path) × IsAbove q path × (a.place ≡ way_to aliases q)

-- Some are added to the aliases that were there, and as long as the answers were true each is one of the world, above the path.
pub record Grows (honest : Bool) (w : World) (path : Path) (old new : List Alias) : Type 0 where
  pub added : List Alias
  pub kept : new ≡ old ++ added
  pub sound : IsTrue honest → AreAliasesIn w added
  pub above : IsTrue honest → AllByRecursion (StandsAbove new path) added

-- each directory above the path is followed to where it leads in the world
abbrev pub IsWhole : World → Path → List Alias → Type 0
IsWhole w path aliases = (q : Path) → IsAbove q path → followed aliases q ≡ led_in w (way_to aliases q)
