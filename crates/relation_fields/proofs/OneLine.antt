-- A field that was read and is written on one line reads as the same clauses.
use Rattle.std.proofs.Common.{◌≡◌, ◌≢◌, ℕ, List, [], ◌∷◌, ◌++◌, map, Some, sym, refl, ap, ◌∙◌, subst, append_assoc, inl, inr}
use Rattle.std.specs.List.{AllByRecursion, join_with_byte}
use Rattle.std.proofs.lemmas.Option.{same_Some}
use Rattle.relation_fields.specs.Grammar.{Reads}
use Rattle.relation_fields.specs.Faults.{IsFaultOf}
use Rattle.relation_fields.specs.Fields.{AreBlanks, IsClauseText, AreParts, IsFieldText}
use Rattle.relation_fields.specs.OneLine.{print_clauses, rules_called, IsOneLine}
use Rattle.relation_fields.specs.Printing.{print_clause, IsClause}
use Rattle.relation_fields.specs.declared.fault.RelationFault.{RelationFault}
use Rattle.relation_fields.specs.declared.fault.RelationFault.TheVariants.{NoMemory}
use Rattle.relation_fields.specs.declared.reading.Rules.{Rules}
use Rattle.relation_fields.specs.declared.alternative.Alternative.{Alternative}
use Rattle.relation_fields.proofs.Complete.{field_reads}
use Rattle.relation_fields.proofs.FieldLaws.{one_reading, no_other_fault}
use Rattle.relation_fields.proofs.PrintedAgain.{ClauseFits, clause_fits, clause_text}
use Rattle.relation_fields.proofs.TakenApart.{put_together, clauses_printable}

-- the clauses of a field fit its rules
parts_fit : (rules : Rules) (parts : List (List ℕ)) (all : List (List Alternative)) → AreParts rules parts all → AllByRecursion (ClauseFits rules) all
parts_fit rules [] all h = let P : List (List Alternative) → Type 0 = λ x. AllByRecursion (ClauseFits rules) x in subst P (sym h) tt
parts_fit rules (part ∷ parts) all (inl h) = parts_fit rules parts all h.1
parts_fit rules (part ∷ parts) all (inr h) =
    let P : List (List Alternative) → Type 0 = λ x. AllByRecursion (ClauseFits rules) x in
    subst P (sym h.2) (clause_fits rules part h.0 h.3, parts_fit rules parts h.1 h.4)

pub clauses_fit : (rules : Rules) (value : List ℕ) (clauses : List (List Alternative)) → Reads rules value clauses → AllByRecursion (ClauseFits rules) clauses
clauses_fit rules value clauses h = let f = put_together rules value clauses h in parts_fit rules (f.0 ∷ f.1) clauses f.3

-- the parts behind the first comma, each with its blank
abbrev later_parts : List (List Alternative) → List (List ℕ)
later_parts clauses = map (λ c. 32 ∷ print_clause c) clauses

with_commas : (front : List ℕ) (c : List Alternative) (cs : List (List Alternative)) → front ++ print_clauses (c ∷ cs) ≡ join_with_byte 44 ((front ++ print_clause c) ∷ later_parts cs)
with_commas front c [] = refl
with_commas front c (d ∷ cs) =
    sym (append_assoc front (print_clause c) (44 ∷ 32 ∷ print_clauses (d ∷ cs))) ∙ ap (λ (t : List ℕ). (front ++ print_clause c) ++ 44 ∷ t) (with_commas (32 ∷ []) d cs)

part_text : (rules : Rules) (front : List ℕ) (clause : List Alternative) → AreBlanks front → IsClause clause → ClauseFits rules clause → IsClauseText rules (front ++ print_clause clause) clause
part_text rules front [] b is fits = absurd (is.some refl)
part_text rules front (a ∷ more) b is fits = clause_text rules front a more b is.are fits

are_parts : (rules : Rules) (front : List ℕ) (c : List Alternative) (cs : List (List Alternative)) → AreBlanks front → AllByRecursion IsClause (c ∷ cs) → AllByRecursion (ClauseFits rules) (c ∷ cs) → AreParts rules ((front ++ print_clause c) ∷ later_parts cs) (c ∷ cs)
are_parts rules front c [] b is fits = inr (c, [], refl, part_text rules front c b is.0 fits.0, refl)
are_parts rules front c (d ∷ cs) b is fits = inr (c, d ∷ cs, refl, part_text rules front c b is.0 fits.0, are_parts rules (32 ∷ []) d cs refl is.1 fits.1)

line_text : (rules : Rules) (clauses : List (List Alternative)) → AllByRecursion IsClause clauses → AllByRecursion (ClauseFits rules) clauses → IsFieldText rules (print_clauses clauses) clauses
line_text rules [] is fits = ([], [], refl, inl (refl, refl))
line_text rules (c ∷ cs) is fits = (print_clause c, later_parts cs, with_commas [] c cs, are_parts rules [] c cs refl is fits)

-- by the same rules
pub line_reads : (rules : Rules) (value : List ℕ) (clauses : List (List Alternative)) → Reads rules value clauses → Reads rules (print_clauses clauses) clauses
line_reads rules value clauses h = field_reads rules (print_clauses clauses) clauses (line_text rules clauses (clauses_printable rules value clauses h) (clauses_fit rules value clauses h))

-- a value has one line, and the line is its own
pub same_line : (key value text other : List ℕ) → IsOneLine key value text → IsOneLine key value other → text ≡ other
same_line key value text other h k =
    let r : h.rules ≡ k.rules = same_Some h.rules k.rules (sym h.called ∙ k.called) in
    let P : Rules → Type 0 = λ x. Reads x value h.clauses in
    h.written ∙ (ap print_clauses (one_reading k.rules value h.clauses k.clauses (subst P r h.reads) k.reads) ∙ sym k.written)

pub line_again : (key value text : List ℕ) → IsOneLine key value text → IsOneLine key text text
line_again key value text h = record {
  rules = h.rules;
  called = h.called;
  clauses = h.clauses;
  reads = (let P : List ℕ → Type 0 = λ x. Reads h.rules x h.clauses in subst P (sym h.written) (line_reads h.rules value h.clauses h.reads));
  written = h.written;
}

-- a text with a fault has no line
pub no_line : (key value : List ℕ) (rules : Rules) (fault : RelationFault) → rules_called key ≡ Some rules → IsFaultOf rules value fault → fault ≢ NoMemory → (text : List ℕ) → IsOneLine key value text → ⊥
no_line key value rules fault called wrong known text line =
    let r : line.rules ≡ rules = same_Some line.rules rules (sym line.called ∙ called) in
    let P : Rules → Type 0 = λ x. Reads x value line.clauses in
    known (no_other_fault rules value line.clauses fault (subst P r line.reads) wrong)
