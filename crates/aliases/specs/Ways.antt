-- What is known of the directories on a way that was looked at.
use Rattle.std.specs.Prelude.{◌≡◌, ◌⊎◌, ◌&&◌, Bool, true, false, IsTrue, is_some, Option, Some, None, List, [], ◌∷◌, ◌++◌}
use Rattle.std.specs.List.{AllByRecursion}
use Rattle.host_core.specs.Paths.{Path}
use Rattle.host_core.specs.World.{World}
use Rattle.host_core.specs.declared.node.Kind.{Kind}
use Rattle.host_core.specs.declared.node.Kind.TheVariants as kind
use Rattle.aliases.specs.Aliases.{Alias, is_alias}
use Rattle.aliases.specs.Links.{node_at, leads_to}
use Rattle.aliases.specs.Reading.{is_link, IsAliasIn}

-- whether a link to a directory stands at a path
abbrev pub is_linked : World → Path → Bool
is_linked w path = is_link (node_at w path) && is_some (leads_to w path)

-- whether it is a link
abbrev pub is_link_kind : Option Kind → Bool
is_link_kind None = false
is_link_kind (Some kind.File) = false
is_link_kind (Some kind.Directory) = false
is_link_kind (Some kind.SymbolicLink) = true

-- an alias is there, or no link to a directory
abbrev pub IsSettled : World → List Alias → Path → Type 0
IsSettled w aliases path = (is_alias aliases path ≡ true) ⊎ (is_linked w path ≡ false)

-- each of these directories is settled
abbrev pub AreSettled : World → List Alias → List Path → Type 0
AreSettled w aliases looked = AllByRecursion (IsSettled w aliases) looked

-- what a look at a directory adds: nothing where it is settled, else its alias
pub data Looked (w : World) (way : Path) (old : List Alias) : List Alias → Type 0 where
  settled : IsSettled w old way → Looked w way old []
  found : (a : Alias) → a.place ≡ way → IsAliasIn w a → is_alias old way ≡ false → Looked w way old (a ∷ [])

-- what was there stays, and where the answers were true this is added
pub record HasLooked (honest : Bool) (w : World) (way : Path) (old new : List Alias) : Type 0 where
  pub added : List Alias
  pub kept : new ≡ old ++ added
  pub looked : IsTrue honest → Looked w way old added
