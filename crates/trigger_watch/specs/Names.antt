-- Names of packages and of triggers.
use Rattle.std.specs.Prelude.{ℕ, Bool, not, List, [], ◌∷◌, ◌++◌, filter, codes}
use Rattle.std.specs.List.{flat_map, list_any}
use Rattle.std.specs.Str.{bytes_eq}

abbrev pub is_among : List (List ℕ) → List ℕ → Bool
is_among names name = list_any (bytes_eq name) names

-- all of them but this one
abbrev pub without : List ℕ → List (List ℕ) → List (List ℕ)
without name names = filter (λ n. not (bytes_eq n name)) names

-- each name once, in the order of their first mentions
abbrev pub each_once : List (List ℕ) → List (List ℕ)
each_once [] = []
each_once (name ∷ names) = name ∷ without name (each_once names)

-- each with a space in front
abbrev pub behind_spaces : List (List ℕ) → List ℕ
behind_spaces names = flat_map (λ name. codes " " ++ name) names

-- as one text, with one space between two
abbrev pub spaced : List (List ℕ) → List ℕ
spaced [] = []
spaced (name ∷ names) = name ++ behind_spaces names
