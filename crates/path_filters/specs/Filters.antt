-- What filters hide of a package, as dpkg has it (`--path-exclude`, `--path-include`).
use Rattle.std.specs.Prelude.{ℕ, ◌==◌, ◌&&◌, ◌||◌, Bool, false, not, List, [], ◌∷◌, cond, if◌then◌else◌, nat_eq}
use Rattle.std.specs.List.{list_any, starts_with}
use Rattle.name_patterns.specs.Patterns.{matches}
use Rattle.path_filters.specs.declared.filters.Filter.{Filter}

-- some filter matches the whole path
abbrev pub is_matched : List Filter → List ℕ → Bool
is_matched filters path = list_any (λ f. matches f.pattern path) filters

-- The last filter that matches the whole path is an exclude.
abbrev pub is_excluded : List Filter → List ℕ → Bool
is_excluded [] path = false
is_excluded (f ∷ fs) path = is_excluded fs path || (not f.includes && matches f.pattern path && not (is_matched fs path))

-- `*` (42), `?` (63), `[` (91) or `\` (92)
abbrev pub is_sign : ℕ → Bool
is_sign byte = byte == 42 || byte == 63 || byte == 91 || byte == 92

-- what a pattern has before its first sign
abbrev pub before_sign : List ℕ → List ℕ
before_sign [] = []
before_sign (b ∷ bs) = if is_sign b then [] else b ∷ before_sign bs

-- `/` (47)
abbrev pub is_slash : ℕ → Bool
is_slash byte = byte == 47

-- a byte before what is left, unless it is a slash and nothing is
abbrev pub kept_before : ℕ → List ℕ → List ℕ
kept_before b [] = cond (is_slash b) [] (b ∷ [])
kept_before b (c ∷ cs) = b ∷ c ∷ cs

-- without the slashes at the end
abbrev pub trimmed : List ℕ → List ℕ
trimmed [] = []
trimmed (b ∷ bs) = kept_before b (trimmed bs)

-- an include, with whose text before the first sign the path begins
abbrev pub is_leading : List ℕ → Filter → Bool
is_leading path f = f.includes && starts_with nat_eq path (trimmed (before_sign f.pattern))

abbrev pub leads_on : List Filter → List ℕ → Bool
leads_on filters path = list_any (is_leading path) filters

-- What filters hide: what is excluded, but for a directory or a link that may lead to what is included.
abbrev pub is_hidden : List Filter → List ℕ → Bool → Bool
is_hidden filters path passes = is_excluded filters path && not (passes && leads_on filters path)
