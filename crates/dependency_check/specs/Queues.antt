-- Which packages can be configured or removed together, and which is next (Policy 6.7, 6.8, 7.2), by the relations that
-- packages state. Packages are numbers in name order.
use Rattle.std.specs.Prelude.{◌≡◌, ◌≢◌, ℕ, Bool, false, List, ◌⊎◌, IsTrue}
use Rattle.dependency_sets.specs.Choices.{IsFirst}
use Rattle.dependency_sets.specs.Largest.{IsInUnion}
use Rattle.dependency_sets.specs.Sets.{or_in, stays}
use Rattle.configure_order.specs.Reaching.{Follows}
use Rattle.relation_fields.specs.declared.alternative.Alternative.{Alternative}
use Rattle.relation_index.specs.Packages.{Meets, States}
use Rattle.relation_index.specs.declared.package.Package.{Package}

-- one of the set meets the clause
abbrev pub IsMetBy : List Package → List Alternative → (ℕ → Bool) → Type 0
IsMetBy packages clause S = (y : ℕ) × Meets clause packages y × IsTrue (S y)

-- each clause of the package's Pre-Depends and Depends is met by one of the set
abbrev pub HasItsNeeds : List Package → (ℕ → Bool) → ℕ → Type 0
HasItsNeeds packages S x = (clause : List Alternative) → States packages x clause → IsMetBy packages clause S

-- in a set of waiting packages whose Depends and Pre-Depends are met by what is installed and the set
abbrev pub CanBeConfigured : List Package → (ℕ → Bool) → (ℕ → Bool) → ℕ → Type 0
CanBeConfigured packages installed waiting x = IsInUnion (λ S y. HasItsNeeds packages (or_in installed S) y) waiting x

-- what an installed package outside of the set has by this one, it has by one that is installed and doesn't wait
abbrev pub IsSpared : List Package → (ℕ → Bool) → (ℕ → Bool) → (ℕ → Bool) → ℕ → Type 0
IsSpared packages installed waiting S x = IsTrue (installed x) → (y : ℕ) (clause : List Alternative) → IsTrue (installed y) → S y ≡ false → States packages y clause → Meets clause packages x → IsMetBy packages clause (stays installed waiting)

abbrev pub CanBeRemoved : List Package → (ℕ → Bool) → (ℕ → Bool) → ℕ → Type 0
CanBeRemoved packages installed waiting x = IsInUnion (IsSpared packages installed waiting) waiting x

-- another installed member has a clause that it meets
abbrev pub IsReliedUpon : List Package → (ℕ → Bool) → (ℕ → Bool) → ℕ → Type 0
IsReliedUpon packages installed members x = (y : ℕ) × (clause : List Alternative) × (y ≢ x) × IsTrue (installed y) × IsTrue (members y) × States packages y clause × Meets clause packages x

-- the first member on which no other relies, else the first
abbrev pub IsRemovedNext : List Package → (ℕ → Bool) → (ℕ → Bool) → ℕ → Type 0
IsRemovedNext packages installed members x =
    IsFirst (λ y. IsTrue (members y) × (IsReliedUpon packages installed members y → ⊥)) x
    ⊎ (((y : ℕ) → IsTrue (members y) → (IsReliedUpon packages installed members y → ⊥) → ⊥) × IsFirst (λ y. IsTrue (members y)) x)

-- the member y meets a clause of x that nothing installed meets
abbrev pub WantsAtOnce : List Package → (ℕ → Bool) → (ℕ → Bool) → ℕ → ℕ → Type 0
WantsAtOnce packages installed members x y = (clause : List Alternative) × States packages x clause × (IsMetBy packages clause installed → ⊥) × Meets clause packages y × IsTrue (members y)

-- x needs y, or another that x needs does
abbrev pub Wants : List Package → (ℕ → Bool) → (ℕ → Bool) → ℕ → ℕ → Type 0
Wants packages installed members = Follows (WantsAtOnce packages installed members)

abbrev pub HasAllInstalled : List Package → (ℕ → Bool) → (ℕ → Bool) → ℕ → Type 0
HasAllInstalled packages installed members x = IsTrue (members x) × HasItsNeeds packages installed x

-- a member that is needed by each member it needs
abbrev pub IsWantedBack : List Package → (ℕ → Bool) → (ℕ → Bool) → ℕ → Type 0
IsWantedBack packages installed members x = IsTrue (members x) × ((y : ℕ) → Wants packages installed members x y → Wants packages installed members y x)

-- the first whose clauses installed packages meet; else, of those that are needed by each they need, the first without
-- postinst, else the first
abbrev pub IsConfiguredNext : List Package → (ℕ → Bool) → (ℕ → Bool) → (ℕ → Bool) → ℕ → Type 0
IsConfiguredNext packages installed members silent x =
    IsFirst (HasAllInstalled packages installed members) x
    ⊎ (((y : ℕ) → HasAllInstalled packages installed members y → ⊥)
    × (IsFirst (λ y. IsWantedBack packages installed members y × IsTrue (silent y)) x
    ⊎ (((y : ℕ) → IsWantedBack packages installed members y → IsTrue (silent y) → ⊥) × IsFirst (IsWantedBack packages installed members) x)))
