-- Lines are read in one way.
use Rattle.std.proofs.Common.{◌≡◌, ◌+◌, ℕ, List, [], ◌∷◌, ◌++◌, length, refl, sym, ap, subst, ◌∙◌, inl, inr, arith}
use Rattle.std.proofs.lemmas.List.{append_cancel_left}
use Rattle.control_fields.specs.Names.{trim_end, trim_start, settled_last, with_line, begin_line}
use Rattle.control_fields.specs.Grammar.{Reading, start, closed, IsSeparator, IsContinuation, IsNewField, field_of, Takes, Run, Reads, paragraphs_of}
use Rattle.control_fields.specs.Faults.{IsFaultIn, IsFaultOf}
use Rattle.control_fields.specs.declared.field.Field.{Field}
use Rattle.control_fields.specs.declared.fault.ControlFault.{ControlFault}
use Rattle.control_fields.specs.declared.fault.ControlFault.TheVariants.{NoMemory}
use Rattle.control_fields.proofs.Parts.{one_cut}
use Rattle.control_fields.proofs.Trims.{cut_ended}
use Rattle.control_fields.proofs.Cases.{same_at, name_begins}
use Rattle.control_fields.proofs.Again.{last_is}

not_empty : (name value : List ℕ) → [] ≡ name ++ 58 ∷ value → ⊥
not_empty [] value e = cc
not_empty (x ∷ name) value e = cc

same_rest : (a x y : List ℕ) → a ++ 58 ∷ x ≡ a ++ 58 ∷ y → x ≡ y
same_rest a x y e = let t : 58 ∷ x ≡ 58 ∷ y = append_cancel_left a (58 ∷ x) (58 ∷ y) e in cc t

blank_or_not : (bytes : List ℕ) (s t u : Reading) → IsSeparator bytes s t → IsContinuation bytes s u → ⊥
blank_or_not bytes s t u k m = let e : [] ≡ m.begin ∷ m.rest = sym k.blank ∙ m.is in cc e

blank_or_field : (number : ℕ) (bytes : List ℕ) (s t u : Reading) → IsSeparator bytes s t → IsNewField number bytes s u → ⊥
blank_or_field number bytes s t u k m = not_empty m.name (trim_end m.value) (sym k.blank ∙ cut_ended bytes m.name m.value m.cut.parts)

goes_or_field : (number : ℕ) (bytes : List ℕ) (s t u : Reading) → IsContinuation bytes s t → IsNewField number bytes s u → ⊥
goes_or_field number bytes s t u k m = name_begins m.name (trim_end m.value) k.begin k.rest m.good (sym (cut_ended bytes m.name m.value m.cut.parts) ∙ k.is) k.blank

goes_once : (bytes : List ℕ) (s t u : Reading) → IsContinuation bytes s t → IsContinuation bytes s u → t ≡ u
goes_once bytes s t u k m =
    k.to ∙ same_at s.done s.done s.begun.line s.begun.line (k.front ++ with_line k.last bytes ∷ []) (m.front ++ with_line m.last bytes ∷ []) refl refl (last_is k.front m.front k.last m.last (sym k.now ∙ m.now) bytes) ∙ sym m.to

field_once : (number : ℕ) (bytes : List ℕ) (s t u : Reading) → IsNewField number bytes s t → IsNewField number bytes s u → t ≡ u
field_once number bytes s t u k m =
    let names : k.name ≡ m.name = one_cut 58 k.name m.name k.value m.value (sym k.cut.parts ∙ m.cut.parts) k.cut.first m.cut.first in
    let values : k.value ≡ m.value = same_rest m.name k.value m.value (subst (λ (n : List ℕ). n ++ 58 ∷ k.value ≡ m.name ++ 58 ∷ m.value) names (sym k.cut.parts ∙ m.cut.parts)) in
    let fields : field_of k.name k.value ≡ field_of m.name m.value = (λ i. record { name = names i; first = trim_start (values i); more = [] }) in
    let line = begin_line s.begun.paragraph s.begun.line number in
    let before = settled_last s.begun.paragraph in
    k.to ∙ same_at s.done s.done line line (before ++ field_of k.name k.value ∷ []) (before ++ field_of m.name m.value ∷ []) refl refl
    (ap (λ (f : Field). before ++ f ∷ []) fields) ∙ sym m.to

pub takes_once : (number : ℕ) (bytes : List ℕ) (s t u : Reading) → Takes number bytes s t → Takes number bytes s u → t ≡ u
takes_once number bytes s t u a b = elim a.1 [
  | inl k ↦ elim b.1 [
    | inl m ↦ k.to ∙ sym m.to
    | inr (inl m) ↦ absurd (blank_or_not bytes s t u k m)
    | inr (inr m) ↦ absurd (blank_or_field number bytes s t u k m)
  ]
  | inr (inl k) ↦ elim b.1 [
    | inl m ↦ absurd (blank_or_not bytes s u t m k)
    | inr (inl m) ↦ goes_once bytes s t u k m
    | inr (inr m) ↦ absurd (goes_or_field number bytes s t u k m)
  ]
  | inr (inr k) ↦ elim b.1 [
    | inl m ↦ absurd (blank_or_field number bytes s u t m k)
    | inr (inl m) ↦ absurd (goes_or_field number bytes s u t m k)
    | inr (inr m) ↦ field_once number bytes s t u k m
  ]
]

pub run_once : (n : ℕ) (ls : List (List ℕ)) (s t u : Reading) → Run n ls s t → Run n ls s u → t ≡ u
run_once n [] s t u a b = a ∙ sym b
run_once n (l ∷ ls) s t u a b =
    let same : a.0 ≡ b.0 = takes_once n l s a.0 b.0 a.1 b.1 in
    run_once (n + 1) ls b.0 t u (subst (λ (r : Reading). Run (n + 1) ls r t) same a.2) b.2

pub reads_once : (ls : List (List ℕ)) (ps qs : List (List Field)) → Reads ls ps → Reads ls qs → ps ≡ qs
reads_once ls ps qs a b = a.2 ∙ ap (λ (s : Reading). paragraphs_of (closed s)) (run_once 1 ls start a.0 b.0 a.1 b.1) ∙ sym b.2

-- the lines before a line
pub run_front : (n : ℕ) (front rest : List (List ℕ)) (s t : Reading) → Run n (front ++ rest) s t → (k : ℕ) × (m : Reading) × (k ≡ length front + n) × Run n front s m × Run k rest m t
run_front n [] rest s t run = (n, s, omega arith, refl, run)
run_front n (l ∷ front) rest s t run =
    let later = run_front (n + 1) front rest run.0 t run.2 in
    let number = later.2 in
    (later.0, later.1, omega (arith, number), (run.0, run.1, later.3), later.4)

-- what can be read to its end has no faulty line
pub not_stuck : (ls : List (List ℕ)) (t s : Reading) (fault : ControlFault) → Run 1 ls start t → IsFaultIn ls fault s → ⊥
not_stuck ls t s fault run is =
    let parts = run_front 1 is.front (is.bytes ∷ is.rest) start t (subst (λ (x : List (List ℕ)). Run 1 x start t) is.is run) in
    let same : parts.1 ≡ s = run_once 1 is.front start parts.1 s parts.3 is.run in
    is.here.stuck parts.0 parts.4.0 (subst (λ (r : Reading). Takes parts.0 is.bytes r parts.4.0) same parts.4.1)

pub no_fault : (ls : List (List ℕ)) (ps : List (List Field)) (fault : ControlFault) → Reads ls ps → IsFaultOf ls fault → fault ≡ NoMemory
no_fault ls ps fault reads is = elim is [ inl m ↦ m | inr f ↦ absurd (not_stuck ls reads.0 f.0 fault reads.1 f.1) ]
