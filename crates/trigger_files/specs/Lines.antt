-- What the files of interests say, in dpkg's format: a line for each package that is interested.
use Rattle.std.specs.Prelude.{◌&&◌, ◌||◌, not, ℕ, Bool, true, false, if◌then◌else◌, List, [], ◌∷◌, ◌++◌, map, filter, Option, Some, None, codes}
use Rattle.std.specs.List.{flat_map, list_all}
use Rattle.std.specs.Str.{bytes_eq}
use Rattle.diversions.specs.Lines.{lines_in}
use Rattle.host_core.specs.Nodes.{own_access}
use Rattle.host_core.specs.Paths.{is_path_text}
use Rattle.host_core.specs.declared.node.Node.{Node}
use Rattle.host_core.specs.declared.node.Node.TheVariants.{File, Dir, Link}
use Rattle.trigger_interests.specs.declared.interests.Interest.{Interest}
use Rattle.trigger_watch.specs.Names.{each_once, is_among}
use Rattle.trigger_files.specs.Places.{paths_name}

-- both are of one package in one trigger
abbrev pub is_same : Interest → Interest → Bool
is_same i other = bytes_eq other.name i.name && bytes_eq other.«package» i.«package»

-- nobody waits for it, by all that the package says of that trigger: dpkg takes a package once for each
abbrev pub is_noawait : List Interest → Interest → Bool
is_noawait entries i = list_all (λ other. not (is_same i other) || other.noawait) entries

-- the package that is interested, and whether nobody waits for it
abbrev pub who : List Interest → Interest → List ℕ
who entries i = if is_noawait entries i then i.«package» ++ codes "/noawait" else i.«package»

-- a trigger that is a path
abbrev pub is_path_name : List ℕ → Bool
is_path_name name = is_path_text name && not (bytes_eq name (codes "/"))

-- whether an interest belongs into the file of a name: those in paths into that of the paths, each other into that of its trigger
abbrev pub belongs : List ℕ → Interest → Bool
belongs name i = if bytes_eq name paths_name then is_path_name i.name else bytes_eq name i.name

-- its line there, which in the file of the paths names the path
abbrev pub line_in : List Interest → List ℕ → Interest → List ℕ
line_in entries name i = if bytes_eq name paths_name then (i.name ++ codes " ") ++ who entries i else who entries i

-- the lines that belong into the file of a name, each once
abbrev pub lines_for : List Interest → List ℕ → List (List ℕ)
lines_for entries name = each_once (map (line_in entries name) (filter (belongs name) entries))

abbrev pub ended : List ℕ → List ℕ
ended line = line ++ codes "\n"

-- a file of these lines
abbrev pub lines_file : List (List ℕ) → Node
lines_file lines = File (flat_map ended lines) (own_access 0o644)

-- what is to stand there: nothing where there are no lines
abbrev pub file_of : List (List ℕ) → Option Node
file_of [] = None
file_of (line ∷ lines) = Some (lines_file (line ∷ lines))

-- each of these stands among others
abbrev pub are_among : List (List ℕ) → List (List ℕ) → Bool
are_among others lines = list_all (is_among others) lines

-- the same lines, in whatever order
abbrev pub have_same : List (List ℕ) → List (List ℕ) → Bool
have_same lines others = are_among others lines && are_among lines others

-- what stands there has these lines already; a directory or link has none
abbrev pub is_settled : List (List ℕ) → Option Node → Bool
is_settled lines None = have_same lines []
is_settled lines (Some (File bytes access)) = have_same lines (lines_in bytes)
is_settled lines (Some (Dir access)) = false
is_settled lines (Some (Link target)) = false
