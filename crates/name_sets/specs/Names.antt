-- Names, and each of them once.
use Rattle.std.specs.Prelude.{ℕ, Bool, not, cond, List, [], ◌∷◌, ◌++◌, filter}
use Rattle.std.specs.List.{list_any}
use Rattle.std.specs.Str.{bytes_eq}

abbrev pub is_among : List (List ℕ) → List ℕ → Bool
is_among names name = list_any (bytes_eq name) names

-- all of them but this one
abbrev pub without : List ℕ → List (List ℕ) → List (List ℕ)
without name names = filter (λ n. not (bytes_eq n name)) names

-- the name behind them, where it isn't among them
abbrev pub with_name : List (List ℕ) → List ℕ → List (List ℕ)
with_name names name = cond (is_among names name) names (names ++ name ∷ [])

-- each name once, in the order of its first mention: a further one is dropped
abbrev pub each_once : List (List ℕ) → List (List ℕ)
each_once [] = []
each_once (name ∷ names) = name ∷ without name (each_once names)
