-- What is to be processed of triggers, and which of it leads to itself. A wish is a trigger that a package is to process, with the
-- chain of the processings that led to it, each of which was begun by what one before it asked for.
use Rattle.std.specs.Prelude.{ℕ, Bool, cond, not, List, [], ◌∷◌, ◌++◌, Option, Some, None, filter, map}
use Rattle.std.specs.List.{flat_map, list_any}
use Rattle.std.specs.Str.{bytes_eq}
use Rattle.trigger_chains.specs.Steps.{has_step, is_step, with_steps}
use Rattle.trigger_chains.specs.declared.steps.Step.{Step}
use Rattle.trigger_chains.specs.declared.wishes.Wish.{Wish}

-- the package whose turn it is
abbrev pub first_package : List Wish → Option (List ℕ)
first_package [] = None
first_package (wish ∷ wishes) = Some wish.«package»

abbrev pub is_of : List ℕ → Wish → Bool
is_of name wish = bytes_eq wish.«package» name

-- the wishes of a package, and the others
abbrev pub mine : List ℕ → List Wish → List Wish
mine name wishes = filter (is_of name) wishes

abbrev pub without : List ℕ → List Wish → List Wish
without name wishes = filter (λ wish. not (is_of name wish)) wishes

-- what is wished for
abbrev pub step_of : Wish → Step
step_of wish = record { «package» = wish.«package»; trigger = wish.trigger }

-- it leads to itself
abbrev pub is_looped : Wish → Bool
is_looped wish = has_step wish.chain (step_of wish)

-- the trigger of the first that does
abbrev pub first_looped : List Wish → Option (List ℕ)
first_looped [] = None
first_looped (wish ∷ wishes) = cond (is_looped wish) (Some wish.trigger) (first_looped wishes)

-- The chain of what is wished behind a turn of these: their chains, and they themselves, each step once.
abbrev pub chain_behind : List Wish → List Step
chain_behind wishes = with_steps [] (flat_map (λ wish. wish.chain) wishes ++ map step_of wishes)

abbrev pub is_wished : List Wish → Step → Bool
is_wished wishes one = list_any (λ wish. is_step one (step_of wish)) wishes

-- wishes with one for this step behind them, where it isn't wished for yet
abbrev pub with_wish : List Step → List Wish → Step → List Wish
with_wish chain wishes one = cond (is_wished wishes one) wishes (wishes ++ record { «package» = one.«package»; trigger = one.trigger; chain = chain } ∷ [])

-- with one for each of these, in their order
abbrev pub with_wishes : List Step → List Wish → List Step → List Wish
with_wishes chain wishes [] = wishes
with_wishes chain wishes (one ∷ more) = with_wishes chain (with_wish chain wishes one) more
