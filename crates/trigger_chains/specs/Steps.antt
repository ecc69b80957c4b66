-- Triggers that packages process, one processing after another (deb-triggers).
use Rattle.std.specs.Prelude.{◌&&◌, ℕ, Bool, cond, not, List, [], ◌∷◌, ◌++◌, filter}
use Rattle.std.specs.List.{flat_map, list_any}
use Rattle.std.specs.Str.{bytes_eq}
use Rattle.trigger_chains.specs.declared.steps.Step.{Step}

-- the same trigger of the same package
abbrev pub is_step : Step → Step → Bool
is_step one other = bytes_eq one.«package» other.«package» && bytes_eq one.trigger other.trigger

abbrev pub has_step : List Step → Step → Bool
has_step steps one = list_any (is_step one) steps

-- steps with one behind them, where it isn't there
abbrev pub with_step : List Step → Step → List Step
with_step steps one = cond (has_step steps one) steps (steps ++ one ∷ [])

-- with each of these, in their order
abbrev pub with_steps : List Step → List Step → List Step
with_steps steps [] = steps
with_steps steps (one ∷ more) = with_steps (with_step steps one) more

-- those of a package
abbrev pub of_package : List Step → List ℕ → List Step
of_package steps name = filter (λ one. bytes_eq one.«package» name) steps

-- those of each of these packages, package after package
abbrev pub steps_by : List (List ℕ) → List Step → List Step
steps_by names steps = flat_map (of_package steps) names

-- those that weren't there before
abbrev pub new_steps : List Step → List Step → List Step
new_steps before now = filter (λ one. not (has_step before one)) now
