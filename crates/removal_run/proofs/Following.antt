-- What is next of the packages that wait.
use Rattle.std.proofs.Common.{◌≡◌, ◌<◌, inl, inr, ℕ, zero, suc, Bool, true, false, List, [], ◌∷◌, length, map, Option, Some, None, refl, sym, ap, subst, ◌∙◌, arith}
use Rattle.std.specs.Prelude.{IsTrue, ◌↔◌, ◌&&◌, MatchOption}
use Rattle.std.proofs.lemmas.Bool.{false≢true}
use Rattle.std.proofs.lemmas.List.{get_or_past}
use Rattle.dependency_check.specs.Waiting.{IsNextOfRemovable, IsRemovableNow, Waiting}
use Rattle.dependency_sets.proofs.StrikingLaws.{in_range}
use Rattle.dependency_sets.specs.Choices.{IsFirst}
use Rattle.dependency_sets.specs.Sets.{has}
use Rattle.relation_index.specs.declared.package.Package.{Package}
use Rattle.status_records.specs.declared.record.Record.{Record}
use Rattle.name_sets.specs.Names.{is_among}
use Rattle.removal_run.specs.Next.{IsNext, IsNextIn}
use Rattle.removal_run.specs.Waiting.{IsEven, IsQueueNow, IsRemovedNext, is_named, name_at}
use Rattle.removal_run.specs.Whose.{IsInTurn, IsNobodysTurn, IsWhoseTurn}
use Rattle.removal_run.specs.declared.waiting.Next.{Next}

-- a number that is marked has a package of one of the names
pub waits_at : (names : List (List ℕ)) (packages : List Package) (x : ℕ) → IsTrue (has (map (is_named names) packages) x) → (x < length packages) × IsTrue (is_among names (name_at packages x))
waits_at names [] x h = absurd (false≢true (sym (get_or_past (map (is_named names) []) x false (omega arith)) ∙ h))
waits_at names (p ∷ ps) zero h = (omega arith, h)
waits_at names (p ∷ ps) (suc x) h = let w = waits_at names ps x h in (omega (arith, w.0), w.1)

-- one that can be removed waits
removable_waits : (q : Waiting) (x : ℕ) → IsRemovableNow q x → IsTrue (has q.waiting x)
removable_waits q x can = can.1.0 x can.2

pub waits_within : (q : Waiting) (x : ℕ) → IsEven q → IsTrue (has q.waiting x) → x < length q.packages
waits_within q x even wait = subst (λ (n : ℕ). x < n) even.waiting (in_range q.waiting x wait)

-- whose turn it is waits
pub whose_waits : (ignore : Bool) (q : Waiting) (x : ℕ) → IsWhoseTurn ignore q x → IsTrue (has q.waiting x)
whose_waits ignore q x (inl is) = removable_waits q x is.can
whose_waits ignore q x (inr out) = out.first.0

module _ (q : Waiting) (members : List Bool) (o : Option ℕ) (are : (y : ℕ) → IsTrue (has members y) ↔ IsRemovableNow q y) (next : IsNextOfRemovable q o) where
  next_of_all : (x : ℕ) → o ≡ Some x → IsNextOfRemovable q (Some x)
  next_of_all x e = subst (IsNextOfRemovable q) e next

  -- the next one can be removed
  next_member : (x : ℕ) → o ≡ Some x → IsRemovableNow q x
  next_member x e = (are x).0 (elim (next_of_all x e (has members) are) [ inl first ↦ first.0.0 | inr first ↦ first.1.0 ])

  pub next_in_turn : (x : ℕ) → o ≡ Some x → IsInTurn q x
  next_in_turn x e = record { next = next_of_all x e; can = next_member x e }

  pub next_nothing : o ≡ None → (x : ℕ) → IsRemovableNow q x → ⊥
  next_nothing e = λ x can. (subst (IsNextOfRemovable q) e next) (has members) are x ((are x).1 can)

-- the first that waits, where none can be removed
pub out_of_turn : (ignore : Bool) (q : Waiting) (first : Option ℕ) → ignore ≡ true → ((x : ℕ) → IsRemovableNow q x → ⊥) → MatchOption first ((x : ℕ) → IsTrue (has q.waiting x) → ⊥) (IsFirst (λ x. IsTrue (has q.waiting x)))
    → MatchOption first (IsNobodysTurn ignore q) (IsWhoseTurn ignore q)
out_of_turn ignore q None so none is = record { none = none; ignored = λ same. is }
out_of_turn ignore q (Some x) so none is = inr (record { ignored = so; none = none; first = is })

pub whose_at : (ignore : Bool) (q : Waiting) (o : Option ℕ) (x : ℕ) → o ≡ Some x → MatchOption o (IsNobodysTurn ignore q) (IsWhoseTurn ignore q) → IsWhoseTurn ignore q x
whose_at ignore q o x e is = subst (λ (p : Option ℕ). MatchOption p (IsNobodysTurn ignore q) (IsWhoseTurn ignore q)) e is

pub nobody_at : (ignore : Bool) (q : Waiting) (o : Option ℕ) → o ≡ None → MatchOption o (IsNobodysTurn ignore q) (IsWhoseTurn ignore q) → IsNobodysTurn ignore q
nobody_at ignore q o e is = subst (λ (p : Option ℕ). MatchOption p (IsNobodysTurn ignore q) (IsWhoseTurn ignore q)) e is

-- what is in both of two equal sets is in one
twice : (b : Bool) → IsTrue b → IsTrue (b && b)
twice b is = ap (λ x. x && x) is

once : (b : Bool) → IsTrue (b && b) → IsTrue b
once true is = refl
once false is = is

pub first_of_one : (set : ℕ → Bool) (first : Option ℕ) → MatchOption first ((x : ℕ) → IsTrue (set x && set x) → ⊥) (IsFirst (λ x. IsTrue (set x && set x)))
    → MatchOption first ((x : ℕ) → IsTrue (set x) → ⊥) (IsFirst (λ x. IsTrue (set x)))
first_of_one set None none = λ x is. none x (twice (set x) is)
first_of_one set (Some x) first = (once (set x) first.0, λ y lt is. first.1 y lt (twice (set y) is))

-- what was found next, of the names that are left
module _ (ignore : Bool) (packages : List Package) (now : List Record) (names : List (List ℕ)) (q : Waiting) (is : IsQueueNow packages now names q) (n : Next) (found : IsNextIn ignore q n) where
  pub next_is : IsRemovedNext ignore packages now names n.name
  next_is = record { queue = q; is = is; number = n.number; next = found.next; named = found.named }

  pub next_among : IsTrue (is_among names n.name)
  next_among = subst (λ (m : List ℕ). IsTrue (is_among names m)) (sym found.named) (waits_at names q.packages n.number (subst (λ (l : List Bool). IsTrue (has l n.number)) is.waiting (whose_waits ignore q n.number found.next))).1

-- one that is removed next waits
pub removed_among : (ignore : Bool) (packages : List Package) (now : List Record) (names : List (List ℕ)) (name : List ℕ) → IsRemovedNext ignore packages now names name → IsTrue (is_among names name)
removed_among ignore packages now names name next =
    subst (λ (m : List ℕ). IsTrue (is_among names m)) (sym next.named)
    (waits_at names next.queue.packages next.number (subst (λ (l : List Bool). IsTrue (has l next.number)) next.is.waiting (whose_waits ignore next.queue next.number next.next))).1

pub is_next : (ignore : Bool) (q : Waiting) (o : Option Next) (n : Next) → o ≡ Some n → IsNext ignore q o → IsNextIn ignore q n
is_next ignore q o n e is = subst (IsNext ignore q) e is

-- the left side of an equation
abbrev pub lhs : {A : Type 0} {a b : A} → a ≡ b → A
lhs {a = a} same = a
