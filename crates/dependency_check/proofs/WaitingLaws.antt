-- The sets that are kept, over packages and their relations.
use Rattle.std.proofs.Common.{◌≡◌, ℕ, Bool, true, false, List, Option, subst, sym, refl}
use Rattle.std.specs.Prelude.{IsTrue, ◌↔◌, MatchOption}
use Rattle.dependency_sets.specs.Removal.{IsRemovable, IsNextToRemove}
use Rattle.dependency_sets.specs.Sets.{has, IsConfigurable}
use Rattle.dependency_sets.specs.declared.clause.Clause.{Clause}
use Rattle.configure_order.specs.Next.{IsNextToConfigure}
use Rattle.relation_index.specs.Packages.{AreClauses}
use Rattle.relation_index.specs.declared.package.Package.{Package}
use Rattle.dependency_check.specs.Queues.{CanBeConfigured, CanBeRemoved, IsConfiguredNext, IsRemovedNext}
use Rattle.dependency_check.proofs.QueueLaws.{configurable_is, removable_is, configured_next_is, removed_next_is}

both_same : (a b : Bool) → (IsTrue a → IsTrue b) → (IsTrue b → IsTrue a) → a ≡ b
both_same true b f g = sym (f refl)
both_same false true f g = g refl
both_same false false f g = refl

-- sets with the same members are the same
same_set : (S T : ℕ → Bool) (P : ℕ → Type 0) → ((x : ℕ) → IsTrue (S x) ↔ P x) → ((x : ℕ) → IsTrue (T x) ↔ P x) → S ≡ T
same_set S T P s t = λ i x. both_same (S x) (T x) (λ h. (t x).1 ((s x).0 h)) (λ h. (s x).1 ((t x).0 h)) i

pub members_configurable : (packages : List Package) (clauses : List Clause) (installed waiting members : ℕ → Bool) → AreClauses packages clauses → ((x : ℕ) → IsTrue (members x) ↔ IsConfigurable clauses installed waiting x) → (x : ℕ) → IsTrue (members x) ↔ CanBeConfigured packages installed waiting x
members_configurable packages clauses installed waiting members z is x =
    let law = configurable_is packages clauses z installed waiting x in
    (λ t. law.0 ((is x).0 t), λ w. (is x).1 (law.1 w))

pub members_removable : (packages : List Package) (clauses : List Clause) (installed waiting members : ℕ → Bool) → AreClauses packages clauses → ((x : ℕ) → IsTrue (members x) ↔ IsRemovable clauses installed waiting x) → (x : ℕ) → IsTrue (members x) ↔ CanBeRemoved packages installed waiting x
members_removable packages clauses installed waiting members z is x =
    let law = removable_is packages clauses z installed waiting x in
    (λ t. law.0 ((is x).0 t), λ w. (is x).1 (law.1 w))

pub next_configurable : (packages : List Package) (clauses list : List Clause) (installed supply : List Bool) (waiting members silent : ℕ → Bool) (o : Option ℕ) → AreClauses packages clauses → list ≡ clauses → supply ≡ installed → ((x : ℕ) → IsTrue (members x) ↔ IsConfigurable clauses (has installed) waiting x) → MatchOption o ((x : ℕ) → IsTrue (members x) → ⊥) (IsNextToConfigure list (has supply) members silent) → (others : ℕ → Bool) → ((x : ℕ) → IsTrue (others x) ↔ CanBeConfigured packages (has installed) waiting x) → MatchOption o ((x : ℕ) → IsTrue (others x) → ⊥) (IsConfiguredNext packages (has installed) others silent)
next_configurable packages clauses list installed supply waiting members silent o z el es is next others same =
    let at = subst (λ (l : List Clause). MatchOption o ((x : ℕ) → IsTrue (members x) → ⊥) (IsNextToConfigure l (has installed) members silent)) el
    (subst (λ (s : List Bool). MatchOption o ((x : ℕ) → IsTrue (members x) → ⊥) (IsNextToConfigure list (has s) members silent)) es next) in
    let equal = same_set members others (CanBeConfigured packages (has installed) waiting) (members_configurable packages clauses (has installed) waiting members z is) same in
    subst (λ (m : ℕ → Bool). MatchOption o ((x : ℕ) → IsTrue (m x) → ⊥) (IsConfiguredNext packages (has installed) m silent)) equal (configured_next_is packages clauses z (has installed) members silent o at)

pub next_removable : (packages : List Package) (clauses list : List Clause) (installed supply : List Bool) (waiting members : ℕ → Bool) (o : Option ℕ) → AreClauses packages clauses → list ≡ clauses → supply ≡ installed → ((x : ℕ) → IsTrue (members x) ↔ IsRemovable clauses (has installed) waiting x) → MatchOption o ((x : ℕ) → IsTrue (members x) → ⊥) (IsNextToRemove list (has supply) members) → (others : ℕ → Bool) → ((x : ℕ) → IsTrue (others x) ↔ CanBeRemoved packages (has installed) waiting x) → MatchOption o ((x : ℕ) → IsTrue (others x) → ⊥) (IsRemovedNext packages (has installed) others)
next_removable packages clauses list installed supply waiting members o z el es is next others same =
    let at = subst (λ (l : List Clause). MatchOption o ((x : ℕ) → IsTrue (members x) → ⊥) (IsNextToRemove l (has installed) members)) el
    (subst (λ (s : List Bool). MatchOption o ((x : ℕ) → IsTrue (members x) → ⊥) (IsNextToRemove list (has s) members)) es next) in
    let equal = same_set members others (CanBeRemoved packages (has installed) waiting) (members_removable packages clauses (has installed) waiting members z is) same in
    subst (λ (m : ℕ → Bool). MatchOption o ((x : ℕ) → IsTrue (m x) → ⊥) (IsRemovedNext packages (has installed) m)) equal (removed_next_is packages clauses z (has installed) members o at)
