-- What stands at the paths that were changed over a host below, and the world that this makes of the host's.
use Rattle.std.specs.Prelude.{◌≡◌, Bool, true, false, List, ◌∷◌, ◌++◌, Option, Some, None, cond, is_some, map, not, IsSome, Contains}
use Rattle.std.specs.List.{IsDistinct}
use Rattle.std.specs.Map.{update}
use Rattle.std.specs.Str.{bytes_eq, IsUtf8}
use Rattle.host_core.specs.Paths.{Path, is_path}
use Rattle.host_core.specs.Tree.{has_slash}
use Rattle.host_core.specs.World.{World, Step, after, lowered}
use Rattle.host_core.specs.declared.node.Node.{Node}
use Rattle.host_overlay.specs.Able.{CanDo}
use Rattle.host_overlay.specs.declared.changed_path.ChangedPath.{ChangedPath}
use Rattle.host_overlay.specs.declared.standing.Origin.{Origin}
use Rattle.host_overlay.specs.declared.standing.Origin.TheVariants.{Nothing, Made, Below}
use Rattle.host_overlay.specs.declared.standing.Standing.{Standing}

-- what each path was changed to, where it was
abbrev pub Changed : Type 0
Changed = Path → Option Standing

-- one more change
abbrev pub changed : Changed → Path → Standing → Changed
changed m p standing = update bytes_eq m p (Some standing)

-- what comes from there, over a world below
abbrev pub comes : Origin → World → Option Node
comes Nothing w = None
comes (Made node) w = Some node
comes (Below path) w = w path

-- the same, with its rights lowered where they were
abbrev pub stands : Standing → World → Option Node
stands standing w = cond standing.is_lowered (lowered (comes standing.origin w)) (comes standing.origin w)

-- what a path was changed to, or what stands there below
abbrev pub shown : Option Standing → World → Path → Option Node
shown None w path = w path
shown (Some standing) w path = stands standing w

-- the world below with the changes over it
abbrev pub overlaid : Changed → World → World
overlaid m w path = shown (m path) w path

-- what comes from there, as it is
abbrev pub as_it_is : Origin → Standing
as_it_is origin = record { origin = origin; is_lowered = false }

-- nothing stands there
abbrev pub gone : Standing
gone = as_it_is Nothing

-- this node stands there
abbrev pub made : Node → Standing
made node = as_it_is (Made node)

-- the same with its rights lowered
abbrev pub lowered_standing : Standing → Standing
lowered_standing standing = record { origin = standing.origin; is_lowered = true }

abbrev pub held_of : Option Standing → Path → Standing
held_of None path = as_it_is (Below path)
held_of (Some standing) path = standing

-- what stands at a path, said as a change
abbrev pub held_at : Changed → Path → Standing
held_at m path = held_of (m path) path

-- whether it is a node that comes from there
abbrev pub is_something : Origin → Bool
is_something Nothing = false
is_something (Made node) = true
is_something (Below path) = true

-- whether the path was changed, and a node stands there
abbrev pub is_shown : Option Standing → Bool
is_shown None = false
is_shown (Some standing) = is_something standing.origin

-- what comes from a path below does stand there
abbrev pub comes_there : Origin → World → Bool
comes_there Nothing w = true
comes_there (Made node) w = true
comes_there (Below path) w = is_some (w path)

abbrev pub is_there : Option Standing → World → Bool
is_there None w = true
is_there (Some standing) w = comes_there standing.origin w

-- all that the changes take from below stands there
abbrev pub AreThere : Changed → World → Type 0
AreThere m w = (path : Path) → is_there (m path) w ≡ true

-- paths alone were changed
abbrev pub ArePaths : Changed → Type 0
ArePaths m = (path : Path) → IsSome (m path) → is_path path ≡ true

-- the name in a directory wasn't changed
abbrev pub is_unchanged_in : Changed → Path → Path → Bool
is_unchanged_in m path name = not (is_some (m (path ++ 47 ∷ name)))

-- the names in a directory of what was changed and stands there, each once; all that were changed are text
pub record AreNamesIn (m : Changed) (path : Path) (names : List Path) : Type 0 where
  pub once : IsDistinct bytes_eq names
  pub text : (name : Path) → Contains names name → IsUtf8 name
  pub there : (name : Path) → Contains names name → (has_slash name ≡ false) × (is_shown (m (path ++ 47 ∷ name)) ≡ true)
  pub whole : (name : Path) → has_slash name ≡ false → is_shown (m (path ++ 47 ∷ name)) ≡ true → Contains names name
  pub all : (name : Path) → has_slash name ≡ false → IsSome (m (path ++ 47 ∷ name)) → IsUtf8 name

-- these are the paths that were changed, each once and with whether a node stands there
pub record AreTold (m : Changed) (told : List ChangedPath) : Type 0 where
  pub once : IsDistinct bytes_eq (map (λ (x : ChangedPath). x.path) told)
  pub there : (x : ChangedPath) → Contains told x → IsSome (m x.path) × (x.stands ≡ is_shown (m x.path))
  pub whole : (q : Path) → IsSome (m q) → (x : ChangedPath) × Contains told x × (x.path ≡ q)

-- the changes make of each world below what the step makes of it; what they take from below stands there, if the step could be made
pub record Becomes (s : Step) (old new : Changed) : Type 0 where
  pub world : (w : World) → overlaid new w ≡ after s (overlaid old w)
  pub there : (w : World) → CanDo s (overlaid old w) → AreThere old w → AreThere new w

-- they make of it what they made before the step
pub record Stays (s : Step) (old new : Changed) : Type 0 where
  pub world : (w : World) → overlaid new w ≡ overlaid old w
  pub there : (w : World) → CanDo s (overlaid old w) → AreThere old w → AreThere new w
