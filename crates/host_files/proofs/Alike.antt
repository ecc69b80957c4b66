-- Readers that gave the same bytes so far, and then went on.
use Rattle.std.proofs.Common.{◌≡◌, ◌≤◌, ℕ, Bool, true, false, List, ◌++◌, ◌+◌, ◌-◌, Option, Some, None, refl, ap, subst, sym, ◌∙◌, length, append_assoc}
use Rattle.std.specs.Bool.{Decides}
use Rattle.std.proofs.Math.Nat.{add_assoc, add-sub_of_le}
use Rattle.std.proofs.lemmas.Bool.{false≢true}
use Rattle.std.proofs.lemmas.List.{append_cancel_left, length-append}
use Rattle.std.specs.Io.KnownBytes.{Consumes}
use Rattle.host_files.specs.Compared.{HaveGiven}

-- what a reader gave, and then gave
pub gave_both : (a b c : Option (List ℕ)) (bs cs : List ℕ) → Consumes a b bs → Consumes b c cs → Consumes a c (bs ++ cs)
gave_both None b c bs cs first then_more = tt
gave_both (Some x) None c bs cs first then_more = absurd first
gave_both (Some x) (Some y) None bs cs first then_more = absurd then_more
gave_both (Some x) (Some y) (Some z) bs cs first then_more = first ∙ ap (λ l. bs ++ l) then_more ∙ sym (append_assoc bs cs z)

-- two pieces were compared
pub pieces : (same : Bool) (count : ℕ) (p q : List ℕ) (one one_left other other_left : Option (List ℕ)) → Decides same (p ≡ q) → length p ≡ count → length q ≡ count
    → Consumes one one_left p → Consumes other other_left q → HaveGiven same count one one_left other other_left
pieces true count p q one one_left other other_left decides long as_long one_gave other_gave =
    (p, long, one_gave, subst (Consumes other other_left) (sym (decides.0 refl)) other_gave)
pieces false count p q one one_left other other_left decides long as_long one_gave other_gave =
    (p, q, long ∙ sym as_long, λ is. false≢true (decides.1 is), one_gave, other_gave)

as_long : (done p q : List ℕ) → length p ≡ length q → length (done ++ p) ≡ length (done ++ q)
as_long done p q is = length-append done p ∙ ap (λ n. length done + n) is ∙ sym (length-append done q)

-- what differs behind the same bytes differs
pub differs : (count more : ℕ) (one one_left one_now other other_left other_now : Option (List ℕ)) (done : List ℕ) → Consumes one one_left done → Consumes other other_left done
    → HaveGiven false more one_left one_now other_left other_now → HaveGiven false count one one_now other other_now
differs count more one one_left one_now other other_left other_now done first second (p, q, long, apart, one_gave, other_gave) = (
  done ++ p,
  done ++ q,
  as_long done p q long,
  λ same. apart (append_cancel_left done p q same),
  gave_both one one_left one_now done p first one_gave,
  gave_both other other_left other_now done q second other_gave,
)

-- so many bytes more were the same
pub counted : (done bytes : List ℕ) (left size count : ℕ) → length done + left ≡ count → length bytes ≡ size → size ≤ left → length (done ++ bytes) + (left - size) ≡ count
counted done bytes left size count total long few =
    ap (λ n. n + (left - size)) (length-append done bytes ∙ ap (λ n. length done + n) long) ∙ add_assoc (length done) size (left - size)
    ∙ ap (λ n. length done + n) (add-sub_of_le few) ∙ total
