-- What a look at a root shows of what a command may change under a question.
use Rattle.std.specs.Prelude.{◌≡◌, ◌↔◌, ◌&&◌, ℕ, Bool, true, false, List, [], Option, Some, None, Contains}
use Rattle.std.specs.List.{list_all, list_any}
use Rattle.std.specs.Str.{bytes_eq}
use Rattle.host_core.specs.Nodes.{same_node}
use Rattle.host_core.specs.Paths.{Path}
use Rattle.host_core.specs.Tree.{IsListing}
use Rattle.host_core.specs.World.{World}
use Rattle.host_core.specs.declared.listing.Listing.{Listing}
use Rattle.host_core.specs.declared.node.Node.{Node}
use Rattle.administration.specs.Places.{info_path, status_path, updates_path}
use Rattle.inquiries.specs.declared.glance.Glance.{Glance}

-- the names in a directory, where they are asked for
abbrev pub IsInside : Bool → World → Path → Listing → Type 0
IsInside true w path listing = IsListing w path listing.names listing.bad
IsInside false w path listing = (listing.names ≡ []) × (listing.bad ≡ false)

-- the names of the notes, and where they are asked for those in `info`
abbrev pub AreNames : Bool → World → Listing → Listing → Type 0
AreNames asked w updates info = IsListing w updates_path updates.names updates.bad × IsInside asked w info_path info

-- what stands at `status`, and those names
pub record IsGlance (asked : Bool) (w : World) (g : Glance) : Type 0 where
  pub status : g.status ≡ w status_path
  pub names : AreNames asked w g.updates g.info

-- the same names, in whatever order
abbrev pub HaveSame : Listing → Listing → Type 0
HaveSame one other = (one.bad ≡ other.bad) × ((name : List ℕ) → Contains one.names name ↔ Contains other.names name)

-- two looks showed the same
pub record IsSame (one other : Glance) : Type 0 where
  pub status : one.status ≡ other.status
  pub updates : HaveSame one.updates other.updates
  pub info : HaveSame one.info other.info

-- the tests for that

abbrev pub same_standing : Option Node → Option Node → Bool
same_standing None None = true
same_standing None (Some node) = false
same_standing (Some node) None = false
same_standing (Some node) (Some other) = same_node node other

-- each of the others is one of these names
abbrev pub has_all : List (List ℕ) → List (List ℕ) → Bool
has_all names others = list_all (λ name. list_any (bytes_eq name) names) others
