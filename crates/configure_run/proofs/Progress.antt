-- What waits behind a turn.
use Rattle.std.proofs.Common.{◌≡◌, ◌≢◌, inl, ℕ, ◌<◌, Bool, true, false, List, [], ◌∷◌, ◌++◌, get_or, length, refl, sym, ap, subst, ◌∙◌, append_assoc, arith}
use Rattle.std.specs.Prelude.{IsTrue}
use Rattle.std.specs.List.{sum_by}
use Rattle.std.proofs.Math.ListN.{set}
use Rattle.std.proofs.lemmas.Bool.{true≢false}
use Rattle.std.proofs.lemmas.List.{get_or-set_other, get_or-set_same, length-set}
use Rattle.std.proofs.lemmas.List.Sums.{sum_by-set}
use Rattle.dependency_check.specs.Waiting.{Waiting}
use Rattle.dependency_sets.proofs.StrikingLaws.{in_range}
use Rattle.dependency_sets.specs.Sets.{has}
use Rattle.configure_run.specs.Taking.{count, weight}
use Rattle.configure_run.specs.Turns.{after_turn}

pub waiting_after : (done : Bool) (x : ℕ) (q : Waiting) → (after_turn done x q).waiting ≡ set q.waiting x false
waiting_after true x q = refl
waiting_after false x q = refl

pub packages_after : (done : Bool) (x : ℕ) (q : Waiting) → (after_turn done x q).packages ≡ q.packages
packages_after true x q = refl
packages_after false x q = refl

pub fewer_wait : (done : Bool) (x : ℕ) (q : Waiting) → IsTrue (has q.waiting x) → count (after_turn done x q) < count q
fewer_wait done x q wait =
    let sums = sum_by-set weight q.waiting x false false (in_range q.waiting x wait) in
    let one : weight (get_or q.waiting x false) ≡ 1 = ap weight wait in
    let same : count (after_turn done x q) ≡ sum_by weight (set q.waiting x false) = ap (sum_by weight) (waiting_after done x q) in
    omega (arith, sums, one, same)

-- another that still waits, waited before
pub still_waits : (done : Bool) (x y : ℕ) (q : Waiting) → IsTrue (has (after_turn done x q).waiting y) → (y ≢ x) × IsTrue (has q.waiting y)
still_waits done x y q wait = (apart, sym (get_or-set_other q.waiting x y false false apart) ∙ there)
  where
    there : IsTrue (has (set q.waiting x false) y)
    there = subst (λ l. IsTrue (has l y)) (waiting_after done x q) wait

    apart : y ≢ x
    apart same =
        let within : x < length q.waiting = subst (λ n. n < length q.waiting) same (omega (arith, in_range (set q.waiting x false) y there, length-set {A = Bool})) in
        true≢false (sym (subst (λ n. IsTrue (has (set q.waiting x false) n)) same there) ∙ get_or-set_same q.waiting x false false within)
