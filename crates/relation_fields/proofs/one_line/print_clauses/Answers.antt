use Rattle.std.proofs.Common.{◌≡◌, ◌∙◌, ◌++◌, ℕ, List, ap, arith, rules, string_bytes}
use Rattle.std.specs.Prelude.{codes}
use Rattle.relation_fields.specs.Printing.{print_clause}
use Rattle.relation_fields.proofs.PrintedFields.{clause_first, clause_later}
use Rattle.relation_fields.proofs.one_line.print_clauses.Goals as goal
use Rattle.relation_fields.proofs.one_line.print_clauses.Goals.{then-i-gt0+in_ok-push_str, else-i-gt0}

pub loop-i-preserved : goal.loop-i-preserved
loop-i-preserved c =
    let pushed : string_bytes c.push_str-in-loop-i.new.self ≡ string_bytes c.if-i-gt0.out ++ print_clause c.index-clauses-i.result =
    c.in_ok-push_str-2.ensures.bytes ∙ ap (λ (t : List ℕ). string_bytes c.if-i-gt0.out ++ t) (c.as_str.ensures.value ∙ c.in_ok-printed.ensures)
    in
    elim c.if-i-gt0.branch [
      | then-i-gt0+in_ok-push_str w ↦ (
          let e : string_bytes c.if-i-gt0.out ≡ string_bytes c.loop-i.out ++ codes ", " = search rules in
          pushed ∙ ap (λ (t : List ℕ). t ++ print_clause c.index-clauses-i.result) e
          ∙ clause_later c.args.clauses.now c.loop-i.i c.index-clauses-i.result (string_bytes c.loop-i.out) (omega arith) c.loop-i-test.true c.index-clauses-i.is c.loop-i.invariant
          )
      | else-i-gt0 w ↦ (
          let e : string_bytes c.if-i-gt0.out ≡ string_bytes c.loop-i.out = search rules in
          pushed ∙ ap (λ (t : List ℕ). t ++ print_clause c.index-clauses-i.result) e
          ∙ clause_first c.args.clauses.now c.loop-i.i c.index-clauses-i.result (string_bytes c.loop-i.out) (omega arith) c.loop-i-test.true c.index-clauses-i.is c.loop-i.invariant
          )
    ]
