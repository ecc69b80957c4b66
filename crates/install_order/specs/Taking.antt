-- A round, by the clauses of trees.
use Rattle.std.specs.Prelude.{◌≡◌, ◌⊎◌, ℕ, Bool, true, false, List, [], ◌∷◌, ◌++◌, IsTrue, ◌<◌, length}
use Rattle.std.specs.List.{Contains}
use Rattle.dependency_sets.specs.Choices.{IsListing}
use Rattle.dependency_sets.specs.Largest.{IsInUnion}
use Rattle.dependency_sets.specs.Sets.{has, or_in, IsSupplied}
use Rattle.dependency_sets.specs.declared.clause.Clause.{Clause}
use Rattle.install_order.specs.Rounds.{among}

-- in a set of those left, the clauses of which are met by earlier ones, or for the configuration by the set
abbrev pub IsNextBy : List Clause → List Clause → (ℕ → Bool) → (ℕ → Bool) → ℕ → Type 0
IsNextBy before beside earlier left x = IsInUnion (λ S y. IsSupplied before earlier y × IsSupplied beside (or_in earlier S) y) left x

-- all of these, or where there are none all that are left
abbrev pub IsRoundOf : (ℕ → Type 0) → (ℕ → Bool) → List ℕ → Type 0
IsRoundOf Next left round =
    ((x : ℕ) × IsTrue (among round x)) × (IsListing Next round ⊎ (((x : ℕ) → Next x → ⊥) × IsListing (λ x. IsTrue (left x)) round))

-- the marks of these are set, and no other changes
pub record AreMarked (value : Bool) (numbers : List ℕ) (old new : List Bool) : Type 0 where
  pub len : length new ≡ length old
  pub marked : (x : ℕ) → x < length old → Contains numbers x → has new x ≡ value
  pub others : (x : ℕ) → (Contains numbers x → ⊥) → has new x ≡ has old x

-- a round was taken
pub record HasTakenRound (Next : ℕ → Type 0) (rounds : List (List ℕ)) (earlier left : List Bool) (rounds' : List (List ℕ)) (earlier' left' : List Bool) : Type 0 where
  pub round : List ℕ
  pub is_next : IsRoundOf Next (has left) round
  pub is_last : rounds' ≡ rounds ++ round ∷ []
  pub in_earlier : AreMarked true round earlier earlier'
  pub not_left : AreMarked false round left left'
