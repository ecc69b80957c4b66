-- Clauses printed one after another.
use Rattle.std.proofs.Common.{◌≡◌, ◌<◌, ◌+◌, ℕ, zero, suc, List, [], ◌∷◌, ◌++◌, length, get_or, take, sym, ap, ◌∙◌, append_assoc, arith}
use Rattle.std.proofs.lemmas.List.{take_more}
use Rattle.std.specs.Prelude.{codes}
use Rattle.relation_fields.specs.OneLine.{print_clauses}
use Rattle.relation_fields.specs.Printing.{print_clause}
use Rattle.relation_fields.specs.declared.alternative.Alternative.{Alternative}

after_some : (c : List Alternative) (cs : List (List Alternative)) (d : List Alternative) → print_clauses ((c ∷ cs) ++ d ∷ []) ≡ (print_clauses (c ∷ cs) ++ codes ", ") ++ print_clause d
after_some c [] d = sym (append_assoc (print_clause c) (codes ", ") (print_clause d))
after_some c (e ∷ cs) d =
    ap (λ (t : List ℕ). print_clause c ++ (codes ", " ++ t)) (after_some e cs d) ∙ simp append_assoc

at_later : (all : List (List Alternative)) (i : ℕ) (d : List Alternative) → 0 < i → i < length all → print_clauses (take i all ++ d ∷ []) ≡ (print_clauses (take i all) ++ codes ", ") ++ print_clause d
at_later [] i d some lt = absurd (omega arith)
at_later (c ∷ all) zero d some lt = absurd (omega arith)
at_later (c ∷ all) (suc i) d some lt = after_some c (take i all) d

-- the first one
pub clause_first : (all : List (List Alternative)) (i : ℕ) (d : List Alternative) (out : List ℕ) → i ≡ 0 → i < length all → d ≡ get_or all i d → out ≡ print_clauses (take i all) → out ++ print_clause d ≡ print_clauses (take (i + 1) all)
clause_first [] i d out none lt is so = absurd (omega arith)
clause_first (c ∷ all) zero d out none lt is so = ap (λ (t : List ℕ). t ++ print_clause d) so ∙ ap print_clause is
clause_first (c ∷ all) (suc i) d out none lt is so = absurd (omega arith)

-- a further one, behind a comma and a blank
pub clause_later : (all : List (List Alternative)) (i : ℕ) (d : List Alternative) (out : List ℕ) → 0 < i → i < length all → d ≡ get_or all i d → out ≡ print_clauses (take i all) → (out ++ codes ", ") ++ print_clause d ≡ print_clauses (take (i + 1) all)
clause_later all i d out some lt is so =
    ap (λ (t : List ℕ). (t ++ codes ", ") ++ print_clause d) so ∙ sym (at_later all i d some lt)
    ∙ ap (λ (r : List Alternative). print_clauses (take i all ++ r ∷ [])) is ∙ ap print_clauses (sym (take_more all i d lt))
