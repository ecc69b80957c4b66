-- Who is next waits, and in order is one that can be configured.
use Rattle.std.proofs.Common.{◌≡◌, ℕ, Bool, true, false, Option, Some, None, inl, inr, refl, ap}
use Rattle.std.specs.Prelude.{IsTrue, ◌↔◌, ◌&&◌, IfSome, MatchOption}
use Rattle.dependency_check.specs.Queues.{IsConfiguredNext}
use Rattle.dependency_check.specs.Waiting.{Waiting, IsConfigurableNow, IsNextOfConfigurable}
use Rattle.dependency_sets.specs.Sets.{has}
use Rattle.dependency_sets.specs.Choices.{IsFirst}
use Rattle.relation_index.specs.declared.package.Package.{Package}
use Rattle.configure_run.specs.Whose.{IsNobodysTurn, IsWhoseTurn}
use Rattle.std.proofs.Common.{List}

next_of : (packages : List Package) (installed members silent : ℕ → Bool) (x : ℕ) → IsConfiguredNext packages installed members silent x → IsTrue (members x)
next_of packages installed members silent x (inl first) = first.0.0
next_of packages installed members silent x (inr (none, inl first)) = first.0.0.0
next_of packages installed members silent x (inr (none, inr (loud, first))) = first.0.0

pub next_is_member : (q : Waiting) (silent members : ℕ → Bool) (x : ℕ) → ((y : ℕ) → IsTrue (members y) ↔ IsConfigurableNow q y) → IsNextOfConfigurable q silent (Some x) → IsConfigurableNow q x
next_is_member q silent members x are next = (are x).0 (next_of q.packages (has q.installed) members silent x (next members are))

pub none_is_member : (q : Waiting) (silent members : ℕ → Bool) → ((y : ℕ) → IsTrue (members y) ↔ IsConfigurableNow q y) → IsNextOfConfigurable q silent None → (x : ℕ) → IsConfigurableNow q x → ⊥
none_is_member q silent members are none x can = none members are x ((are x).1 can)

-- one that can be configured waits
pub member_waits : (q : Waiting) (x : ℕ) → IsConfigurableNow q x → IsTrue (has q.waiting x)
member_waits q x can = can.1.0 x can.2

pub next_member : (q : Waiting) (silent members : ℕ → Bool) (next : Option ℕ) → ((y : ℕ) → IsTrue (members y) ↔ IsConfigurableNow q y) → IsNextOfConfigurable q silent next → IfSome next (IsConfigurableNow q)
next_member q silent members None are is = tt
next_member q silent members (Some x) are is = next_is_member q silent members x are is

-- whose turn it is waits
pub turn_waits : (ignore : Bool) (silent : ℕ → Bool) (q : Waiting) (x : ℕ) → IsWhoseTurn ignore silent q x → IsTrue (has q.waiting x)
turn_waits ignore silent q x (inl is) = member_waits q x is.can
turn_waits ignore silent q x (inr out) = out.first.0

-- the first that waits, where relations are ignored and by them none can be configured
pub out_of_turn : (ignore : Bool) (silent : ℕ → Bool) (q : Waiting) (first : Option ℕ) → ignore ≡ true → IsNextOfConfigurable q silent None → ((y : ℕ) → IsConfigurableNow q y → ⊥)
    → MatchOption first ((x : ℕ) → IsTrue (has q.waiting x) → ⊥) (IsFirst (λ x. IsTrue (has q.waiting x))) → MatchOption first (IsNobodysTurn ignore silent q) (IsWhoseTurn ignore silent q)
out_of_turn ignore silent q None so none left is = record { none = none; ignored = λ same. is }
out_of_turn ignore silent q (Some x) so none left is = inr (record { ignored = so; none = left; first = is })

-- what is in both of two equal sets is in one
twice : (b : Bool) → IsTrue b → IsTrue (b && b)
twice b is = ap (λ x. x && x) is

once : (b : Bool) → IsTrue (b && b) → IsTrue b
once true is = refl
once false is = is

pub first_of_one : (set : ℕ → Bool) (first : Option ℕ) → MatchOption first ((x : ℕ) → IsTrue (set x && set x) → ⊥) (IsFirst (λ x. IsTrue (set x && set x)))
    → MatchOption first ((x : ℕ) → IsTrue (set x) → ⊥) (IsFirst (λ x. IsTrue (set x)))
first_of_one set None none = λ x is. none x (twice (set x) is)
first_of_one set (Some x) first = (once (set x) first.0, λ y lt is. first.1 y lt (twice (set y) is))
