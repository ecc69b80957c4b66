-- The triggers in which packages are interested, and those that they activate (deb-triggers), by their stored files `triggers`.
use Rattle.std.specs.Prelude.{ℕ, Bool, true, false, if◌then◌else◌, List, [], map, filter, not, Option, Some, None, Result, Ok, Err, codes}
use Rattle.std.specs.List.{flat_map}
use Rattle.texts.specs.PackageNames.{is_package_name}
use Rattle.host_core.specs.Paths.{Path}
use Rattle.host_core.specs.World.{World}
use Rattle.host_core.specs.declared.node.Node.{Node}
use Rattle.host_core.specs.declared.node.Node.TheVariants.{File, Dir, Link}
use Rattle.control_members.specs.Stored.{stored_member_path}
use Rattle.trigger_interests.specs.Lines.{declarations_in}
use Rattle.trigger_interests.specs.declared.interests.Interest.{Interest}
use Rattle.trigger_interests.specs.declared.lines.Declaration.{Declaration}
use Rattle.trigger_interests.specs.declared.words.Directive.{Directive}
use Rattle.trigger_interests.specs.declared.words.Directive.TheVariants as directive

-- where the file of a package is stored
abbrev pub triggers_path : List ℕ → Path
triggers_path name = stored_member_path name (codes "triggers")

-- what was read; nothing where a line is faulty
abbrev pub or_none : Result (List Declaration) ℕ → List Declaration
or_none (Ok declarations) = declarations
or_none (Err line) = []

-- what stands at its place declares this; what isn't a file declares nothing
abbrev pub declared_at : Option Node → List Declaration
declared_at None = []
declared_at (Some (File bytes access)) = or_none (declarations_in bytes)
declared_at (Some (Dir access)) = []
declared_at (Some (Link target)) = []

-- what a package declares
abbrev pub declared : World → List ℕ → List Declaration
declared w name = if is_package_name name then declared_at (w (triggers_path name)) else []

abbrev pub is_interest : Directive → Bool
is_interest (directive.Interest noawait) = true
is_interest directive.Activate = false

-- that it is one for which nobody waits
abbrev pub is_noawait : Directive → Bool
is_noawait (directive.Interest noawait) = noawait
is_noawait directive.Activate = false

-- of a package, by what it declares
abbrev pub interest_of : List ℕ → Declaration → Interest
interest_of name d = record { «package» = name; name = d.name; noawait = is_noawait d.directive }

-- those among its declarations, in their order
abbrev pub interests_by : List ℕ → List Declaration → List Interest
interests_by name declarations = map (interest_of name) (filter (λ d. is_interest d.directive) declarations)

-- the interests of packages, in the order of the packages
abbrev pub interests_of : World → List (List ℕ) → List Interest
interests_of w names = flat_map (λ name. interests_by name (declared w name)) names

-- the names of its other declarations
abbrev pub activations_by : List Declaration → List (List ℕ)
activations_by declarations = map (λ d. d.name) (filter (λ d. not (is_interest d.directive)) declarations)

-- what a package activates by itself
abbrev pub activations_of : World → List ℕ → List (List ℕ)
activations_of w name = activations_by (declared w name)
