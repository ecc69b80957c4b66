-- What a text of the journal asks for, in dpkg's format: a line for a trigger, with its name and, behind it, those who await it.
use Rattle.std.specs.Prelude.{ℕ, Bool, not, List, [], ◌∷◌, Option, Some, None, codes}
use Rattle.std.specs.List.{flat_map, list_any}
use Rattle.std.specs.Str.{bytes_eq}
use Rattle.diversions.specs.Lines.{lines_in}
use Rattle.host_core.specs.World.{World}
use Rattle.host_core.specs.declared.node.Node.{Node}
use Rattle.host_core.specs.declared.node.Node.TheVariants.{File, Dir, Link}
use Rattle.trigger_interests.specs.Words.{words_in}
use Rattle.trigger_journal.specs.Places.{journal_path}
use Rattle.trigger_journal.specs.declared.requests.Request.{Request}

-- who stands on the lines that are written ahead; each other awaiter asked by itself
abbrev pub own_awaiter : List ℕ
own_awaiter = codes "coizkerra"

abbrev pub is_own : List ℕ → Bool
is_own awaiter = bytes_eq awaiter own_awaiter

-- whether we stand among these, and whether others do
abbrev pub request_of : List ℕ → List (List ℕ) → Request
request_of name awaiters = record { name = name; ours = list_any is_own awaiters; others = list_any (λ awaiter. not (is_own awaiter)) awaiters }

-- what a line asks for, by its words; one without an awaiter asks for nothing
abbrev pub requests_by : List (List ℕ) → List Request
requests_by [] = []
requests_by (name ∷ []) = []
requests_by (name ∷ awaiter ∷ more) = request_of name (awaiter ∷ more) ∷ []

-- what a text asks for, in the order of its lines
abbrev pub requests_in : List ℕ → List Request
requests_in text = flat_map (λ line. requests_by (words_in line)) (lines_in text)

-- the text that stands there; what isn't a file has none
abbrev pub text_at : Option Node → List ℕ
text_at None = []
text_at (Some (File bytes access)) = bytes
text_at (Some (Dir access)) = []
text_at (Some (Link target)) = []

-- what the journal of a world asks for
abbrev pub requests_of : World → List Request
requests_of w = requests_in (text_at (w journal_path))
