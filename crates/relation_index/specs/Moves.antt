-- The numbers of packages, where one comes among them or goes.
use Rattle.std.specs.Prelude.{◌≡◌, ℕ, ◌+◌, ◌-◌, ◌<◌, ◌||◌, List, Option, Some, length, if◌then◌else◌, nat_lt, nat_le}
use Rattle.relation_index.specs.Bearing.{IsEntered}

-- the number of a package once another has come to this place; there were so many packages
abbrev pub moved_up : ℕ → ℕ → ℕ → ℕ
moved_up at count x = if nat_lt x at || nat_le count x then x else x + 1

-- the number of a package once that of this place has gone
abbrev pub moved_down : ℕ → ℕ → ℕ
moved_down at x = if nat_lt at x then x - 1 else x

-- what was entered stands under its new number
pub record Moves (moved : ℕ → ℕ) (slots : List ℕ → Option ℕ) (rows : List (List ℕ)) (slots' : List ℕ → Option ℕ) (rows' : List (List ℕ)) : Type 0 where
  pub kept : (name : List ℕ) (x : ℕ) → IsEntered slots rows name x → IsEntered slots' rows' name (moved x)
  pub within : ((name : List ℕ) (s : ℕ) → slots name ≡ Some s → s < length rows) → (name : List ℕ) (s : ℕ) → slots' name ≡ Some s → s < length rows'
