-- Which steps are declined: of each it is planned how many are made before it, counted from the one before.
use Rattle.std.specs.Prelude.{ℕ, ◌-◌, Bool, false, true, List, [], ◌∷◌, cond, nat_eq}

-- the next step is declined
abbrev pub is_denied : List ℕ → Bool
is_denied [] = false
is_denied (before ∷ later) = nat_eq before 0

-- what is planned behind the next step
abbrev pub behind_step : List ℕ → List ℕ
behind_step [] = []
behind_step (before ∷ later) = cond (nat_eq before 0) later ((before - 1) ∷ later)

-- a step is to be declined
abbrev pub awaits_denial : List ℕ → Bool
awaits_denial [] = false
awaits_denial (before ∷ later) = true
