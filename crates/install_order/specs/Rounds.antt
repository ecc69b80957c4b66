-- The rounds in which trees are installed (Policy 7.2): those of a round are unpacked, one after another, and then configured.
use Rattle.std.specs.Prelude.{◌≡◌, ◌⊎◌, ℕ, Bool, false, List, [], ◌∷◌, Option, IsTrue, length, nat_eq, nat_lt}
use Rattle.std.specs.List.{list_any}
use Rattle.dependency_sets.specs.Choices.{IsListing}
use Rattle.dependency_sets.specs.Largest.{IsInUnion}
use Rattle.dependency_sets.specs.Sets.{but, or_in}
use Rattle.install_order.specs.Needs.{CanBeUnpacked, HasItsDepends}
use Rattle.package_tree.specs.declared.control_file.ControlFile.{ControlFile}
use Rattle.relation_index.specs.declared.package.Package.{Package}

-- the trees of a round
abbrev pub among : List ℕ → ℕ → Bool
among round x = list_any (nat_eq x) round

-- The tree can be in the next round: it is in a set of those left, each of which can be unpacked behind the earlier rounds, and
-- configured with the set.
abbrev pub IsNext : List Package → List (Option ControlFile) → (ℕ → Bool) → (ℕ → Bool) → ℕ → Type 0
IsNext recorded trees earlier left x =
    IsInUnion (λ S y. CanBeUnpacked recorded trees earlier y × HasItsDepends recorded trees (or_in earlier S) y) left x

-- Round after round all that can be, in the order in which the trees are given; where none of those left can be they are the last round.
abbrev pub AreRoundsFrom : List Package → List (Option ControlFile) → (ℕ → Bool) → (ℕ → Bool) → List (List ℕ) → Type 0
AreRoundsFrom recorded trees earlier left [] = (x : ℕ) → left x ≡ false
AreRoundsFrom recorded trees earlier left (round ∷ rounds) =
    (((x : ℕ) × IsTrue (among round x)) × IsListing (IsNext recorded trees earlier left) round
    × AreRoundsFrom recorded trees (or_in earlier (among round)) (but left (among round)) rounds)
    ⊎ (((x : ℕ) × IsTrue (among round x)) × ((x : ℕ) → IsNext recorded trees earlier left x → ⊥)
    × IsListing (λ x. IsTrue (left x)) round × (rounds ≡ []))

abbrev pub AreRounds : List Package → List (Option ControlFile) → List (List ℕ) → Type 0
AreRounds recorded trees rounds = AreRoundsFrom recorded trees (λ x. false) (λ x. nat_lt x (length trees)) rounds
