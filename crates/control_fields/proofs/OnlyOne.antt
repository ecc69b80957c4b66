-- Texts that are to have one paragraph.
use Rattle.std.proofs.Common.{◌≡◌, ◌+◌, ◌<◌, ◌≤◌, ℕ, List, [], ◌∷◌, ◌++◌, length, refl, sym, ap, subst, ◌∙◌, inl, inr, arith}
use Rattle.std.proofs.lemmas.List.{length-append}
use Rattle.control_fields.specs.Names.{settled, settled_last, with_line}
use Rattle.control_fields.specs.Grammar.{Reading, start, closed, with_last, with_field, field_of, Takes, Run, Reads, ReadsOne, paragraphs_of}
use Rattle.control_fields.specs.Faults.{IsSecondIn, IsFaultOfOne}
use Rattle.control_fields.specs.declared.field.Field.{Field}
use Rattle.control_fields.specs.declared.located.Located.{Located}
use Rattle.control_fields.specs.declared.fault.ControlFault.{ControlFault}
use Rattle.control_fields.specs.declared.fault.ControlFault.TheVariants.{NoMemory}
use Rattle.control_fields.proofs.Once.{takes_once, run_once, reads_once, run_front, not_stuck}

count_most : (d : List Located) (j : ℕ) (p : List Field) → length (with_last d (record { line = j; paragraph = p })) ≤ length d + 1
count_most d j [] = omega arith
count_most d j (f ∷ p) = let last : Located = record { line = j; paragraph = settled_last (f ∷ p) } in omega (arith, length-append d (last ∷ []))

count_some : (d : List Located) (j : ℕ) (front : List Field) (f : Field) → length (with_last d (record { line = j; paragraph = front ++ f ∷ [] })) ≡ length d + 1
count_some d j [] f = let last : Located = record { line = j; paragraph = settled f ∷ [] } in omega (arith, length-append d (last ∷ []))
count_some d j (g ∷ front) f = let last : Located = record { line = j; paragraph = settled_last (g ∷ (front ++ f ∷ [])) } in omega (arith, length-append d (last ∷ []))

-- paragraphs don't become fewer
takes_grows : (n : ℕ) (l : List ℕ) (s t : Reading) → Takes n l s t → length (closed s) ≤ length (closed t)
takes_grows n l s t takes = elim takes.1 [
  | inl k ↦ subst (λ (r : Reading). length (closed s) ≤ length (closed r)) (sym k.to) (omega arith)
  | inr (inl k) ↦ subst (λ (r : Reading). length (closed s) ≤ length (closed r)) (sym k.to)
      (let a = count_most s.done s.begun.line s.begun.paragraph in let b = count_some s.done s.begun.line k.front (with_line k.last l) in omega (arith, a, b))
  | inr (inr k) ↦ subst (λ (r : Reading). length (closed s) ≤ length (closed r)) (sym k.to)
      (let m = with_field n s.begun (field_of k.name k.value) in let a = count_most s.done s.begun.line s.begun.paragraph in let b = count_some s.done m.line (settled_last s.begun.paragraph) (field_of k.name k.value) in omega (arith, a, b))
]

run_grows : (n : ℕ) (ls : List (List ℕ)) (s t : Reading) → Run n ls s t → length (closed s) ≤ length (closed t)
run_grows n [] s t run = subst (λ (r : Reading). length (closed s) ≤ length (closed r)) (sym run) (omega arith)
run_grows n (l ∷ ls) s t run = let a = takes_grows n l s run.0 run.1 in let b = run_grows (n + 1) ls run.0 t run.2 in omega (arith, a, b)

-- where a second paragraph begins, there are two at the end
two_at_end : (ls : List (List ℕ)) (t : Reading) (fault : ControlFault) → Run 1 ls start t → IsSecondIn ls fault → 1 < length (closed t)
two_at_end ls t fault run is =
    let parts = run_front 1 is.front (is.bytes ∷ is.rest) start t (subst (λ (x : List (List ℕ)). Run 1 x start t) is.is run) in
    let before : parts.1 ≡ is.s = run_once 1 is.front start parts.1 is.s parts.3 is.run in
    let takes : Takes (length is.front + 1) is.bytes is.s parts.4.0 = subst (λ (i : ℕ). Takes i is.bytes is.s parts.4.0) parts.2 (subst (λ (r : Reading). Takes parts.0 is.bytes r parts.4.0) before parts.4.1) in
    let after : is.t ≡ parts.4.0 = takes_once (length is.front + 1) is.bytes is.s is.t parts.4.0 is.takes takes in
    let grown = run_grows (parts.0 + 1) is.rest parts.4.0 t parts.4.2 in
    let two : 1 < length (closed parts.4.0) = subst (λ (r : Reading). 1 < length (closed r)) after is.two in
    omega (arith, grown, two)

long_as : (ls : List Located) → length (paragraphs_of ls) ≡ length ls
long_as [] = refl
long_as (l ∷ ls) = let m = long_as ls in omega (arith, m)

counted : (ls : List Located) (ps : List (List Field)) → ps ≡ paragraphs_of ls → length ps ≡ length ls
counted ls ps e = ap length e ∙ long_as ls

no_second : (ls : List (List ℕ)) (ps : List (List Field)) (fault : ControlFault) → Reads ls ps → length ps ≤ 1 → IsSecondIn ls fault → ⊥
no_second ls ps fault reads most is =
    let two = two_at_end ls reads.0 fault reads.1 is in
    let count = counted (closed reads.0) ps reads.2 in
    omega (arith, two, count, most)

no_fault_at : (ls : List (List ℕ)) (ps : List (List Field)) (fault : ControlFault) → Reads ls ps → length ps ≤ 1 → IsFaultOfOne ls fault → fault ≡ NoMemory
no_fault_at ls ps fault reads most is = elim is [
  | inl m ↦ m
  | inr (inl f) ↦ absurd (not_stuck ls reads.0 f.0 fault reads.1 f.1)
  | inr (inr f) ↦ absurd (no_second ls ps fault reads most f)
]

pub no_fault_of_one : (ls : List (List ℕ)) (p : List Field) (fault : ControlFault) → ReadsOne ls p → IsFaultOfOne ls fault → fault ≡ NoMemory
no_fault_of_one ls p fault reads is = elim reads [
  | inl r ↦ no_fault_at ls (p ∷ []) fault r (omega arith) is
  | inr r ↦ no_fault_at ls [] fault r.0 (omega arith) is
]

pub reads_one_once : (ls : List (List ℕ)) (p q : List Field) → ReadsOne ls p → ReadsOne ls q → p ≡ q
reads_one_once ls p q a b = elim a [
  | inl r ↦ elim b [
    | inl u ↦ (let e : p ∷ [] ≡ q ∷ [] = reads_once ls (p ∷ []) (q ∷ []) r u in cc e)
    | inr u ↦ absurd (let e : p ∷ [] ≡ [] = reads_once ls (p ∷ []) [] r u.0 in cc e)
  ]
  | inr r ↦ elim b [
    | inl u ↦ absurd (let e : [] ≡ q ∷ [] = reads_once ls [] (q ∷ []) r.0 u in cc e)
    | inr u ↦ r.1 ∙ sym u.1
  ]
]
