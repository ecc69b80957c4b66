-- A line of a diversion: who diverts, a path and its target, both of which may have blanks.
use Rattle.std.specs.Prelude.{ℕ, Bool, List, [], ◌∷◌, ◌++◌, Option, Some, None, codes, if◌then◌else◌, nat_eq}
use Rattle.std.specs.List.{starts_with}
use Rattle.json_lines.specs.Cutting.{between}
use Rattle.json_lines.specs.declared.forms.Form.TheVariants.{Diverted}
use Rattle.json_lines.specs.Members.{formed}

-- a word with which a path begins
abbrev pub begins_path : List ℕ → Bool
begins_path word = starts_with nat_eq word (codes "/")

-- the words up to the next path, each behind a blank
abbrev pub up_to_path : List (List ℕ) → List ℕ
up_to_path [] = []
up_to_path (word ∷ words) = if begins_path word then [] else codes " " ++ (word ++ up_to_path words)

-- each path with all its words
abbrev pub paths_in : List (List ℕ) → List (List ℕ)
paths_in [] = []
paths_in (word ∷ words) = if begins_path word then (word ++ up_to_path words) ∷ paths_in words else paths_in words

-- who diverts, and the rest of the line
abbrev pub diverted_parts : List ℕ → Option (List ℕ × List ℕ) → List (List ℕ)
diverted_parts line None = formed Diverted (between 32 line)
diverted_parts line (Some parts) = formed Diverted (parts.0 ∷ paths_in (between 32 parts.1))
