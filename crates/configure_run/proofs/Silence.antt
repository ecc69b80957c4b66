-- Which of the records' packages have no postinst, one more.
use Rattle.std.proofs.Common.{◌≡◌, ℕ, ◌+◌, ◌<◌, Bool, true, false, List, [], ◌∷◌, ◌++◌, length, get_or, sym, ap, subst, ◌∙◌, ⊎_elim, arith}
use Rattle.std.proofs.Math.Seq.{get_or-append_seam}
use Rattle.std.proofs.lemmas.Bool.{cases_lt}
use Rattle.std.proofs.lemmas.List.{get_or_append_left, get_or_default, length_push}
use Rattle.dependency_sets.specs.Sets.{has}
use Rattle.host_core.specs.World.{World}
use Rattle.status_records.specs.declared.record.Record.{Record}
use Rattle.configure_run.specs.Starting.{AreSilentOf, IsAt, is_silent, waits}

-- the first of them, as many as were looked at
pub record AreSilentSoFar (w : World) (names : List (List ℕ)) (records : List Record) (i : ℕ) (set : List Bool) : Type 0 where
  pub count : length set ≡ i
  pub each : (x : ℕ) (r : Record) → x < i → IsAt records x r → waits names r ≡ true → has set x ≡ is_silent w r.name

pub silent_none : (w : World) (names : List (List ℕ)) (records : List Record) (set : List Bool) → set ≡ [] → AreSilentSoFar w names records 0 set
silent_none w names records set none = record { count = ap length none; each = λ x r lt at wait. absurd (omega (arith, lt)) }

pub silent_more : (w : World) (names : List (List ℕ)) (records : List Record) (i : ℕ) (entry : Record) (set new : List Bool) (b : Bool) → entry ≡ get_or records i entry → AreSilentSoFar w names records i set
    → (waits names entry ≡ true → b ≡ is_silent w entry.name) → new ≡ set ++ b ∷ [] → AreSilentSoFar w names records (i + 1) new
silent_more w names records i entry set new b is so_far here grown = record {
  count = ap length grown ∙ length_push set b ∙ ap (λ n. n + 1) so_far.count;
  each = λ x r lt at wait. ⊎_elim (λ (below : x < i). old x r below at wait) (λ le. last x r (omega (arith, le, lt)) at wait) (cases_lt x i);
}
  where
    old : (x : ℕ) (r : Record) → x < i → IsAt records x r → waits names r ≡ true → has new x ≡ is_silent w r.name
    old x r below at wait = ap (λ l. get_or l x false) grown ∙ get_or_append_left set (b ∷ []) false x (omega (arith, below, so_far.count)) ∙ so_far.each x r below at wait

    last : (x : ℕ) (r : Record) → x ≡ i → IsAt records x r → waits names r ≡ true → has new x ≡ is_silent w r.name
    last x r e at wait =
        let same : entry ≡ r = is ∙ get_or_default records i entry r (subst (λ n. n < length records) e at.within) ∙ sym (ap (λ n. get_or records n r) e) ∙ at.here in
        ap (has new) (e ∙ sym so_far.count) ∙ ap (λ l. get_or l (length set) false) grown ∙ get_or-append_seam set b [] false ∙ here (ap (waits names) same ∙ wait) ∙ ap (λ (s : Record). is_silent w s.name) same

pub silent_all : (w : World) (names : List (List ℕ)) (records : List Record) (set : List Bool) → AreSilentSoFar w names records (length records) set → AreSilentOf w names records set
silent_all w names records set so_far x r at wait = so_far.each x r at.within at wait
