-- Where links lead in a world, as they are seen from its root: nothing leads out of it.
use Rattle.std.specs.Prelude.{◌||◌, not, ℕ, Bool, zero, suc, nat_eq, cond, codes, filter, List, [], ◌∷◌, ◌++◌, Option, Some, None}
use Rattle.std.specs.Str.{bytes_eq}
use Rattle.host_core.specs.Paths.{Path, components}
use Rattle.host_core.specs.Tree.{has_slash}
use Rattle.host_core.specs.World.{World}
use Rattle.host_core.specs.declared.node.Node.{Node}
use Rattle.host_core.specs.declared.node.Node.TheVariants.{File, Dir, Link}
use Rattle.aliases.specs.Table.{is_place}
use Rattle.aliases.specs.declared.links.Turn.{Turn}
use Rattle.aliases.specs.declared.links.Turn.TheVariants as turn

-- the names between the slashes
abbrev pub names_of : List ℕ → List Path
names_of text = filter (λ name. not (bytes_eq name [])) (components text)

-- a name before others, unless it is empty
abbrev pub with_name : Path → List Path → List Path
with_name name names = cond (bytes_eq name []) names (name ∷ names)

-- the directory above a directory; above the root is the root
abbrev pub above : Path → Path
above [] = []
above (b ∷ path) = cond (has_slash path) (b ∷ above path) []

-- where the names of a link's text begin: at the root, or at the directory in which the link stands
abbrev pub start_of : Path → List ℕ → Path
start_of at [] = at
start_of at (b ∷ text) = cond (nat_eq b 47) [] at

-- a name that stays where it is
abbrev pub stays : Path → Bool
stays name = bytes_eq name [] || bytes_eq name (codes ".")

-- what stands at a path; what is no path below the root has nothing
abbrev pub node_at : World → Path → Option Node
node_at w path = cond (is_place path) (w path) None

-- by what stands there: into a directory, or a link is met
abbrev pub turn_at : Option Node → Path → Turn
turn_at None path = turn.Nowhere
turn_at (Some (File bytes access)) path = turn.Nowhere
turn_at (Some (Dir access)) path = turn.Into path
turn_at (Some (Link text)) path = turn.Link text

-- where a name leads from a directory
abbrev pub turn_of : World → Path → Path → Turn
turn_of w at name = cond (stays name) (turn.Into at)
    (cond (bytes_eq name (codes "..")) (turn.Into (above at)) (turn_at (node_at w (at ++ 47 ∷ name)) (at ++ 47 ∷ name)))

-- how far names lead up to the first link
pub data Way : Type 0 where
  -- all of them, to this directory
  Leads : (at : Path) → Way
  -- to a link: these names are gone from there on
  Meets : (at : Path) (names : List Path) → Way
  Ends : Way

abbrev pub way_on : Turn → (Path → Way) → Path → List Path → Way
way_on (turn.Into next) on at names = on next
way_on (turn.Link text) on at names = Meets (start_of at text) (names_of text ++ names)
way_on turn.Nowhere on at names = Ends

-- names from a directory up to the first link
abbrev pub go : World → Path → List Path → Way
go w at [] = Leads at
go w at (name ∷ names) = way_on (turn_of w at name) (λ next. go w next names) at names

-- the directory that a way leads to, with at most so many links on it; none where it leads to nothing, to no directory, or in a circle
abbrev pub end_of : World → Way → ℕ → Option Path
end_of w (Leads at) links = Some at
end_of w (Meets at names) zero = None
end_of w (Meets at names) (suc links) = end_of w (go w at names) links
end_of w Ends links = None

-- the directory that a path leads to, with at most eight links on the way
unfoldable pub leads_to : World → Path → Option Path
leads_to w path = end_of w (go w [] (names_of path)) 8
