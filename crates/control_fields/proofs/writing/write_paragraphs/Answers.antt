use Rattle.std.proofs.Common.{◌≡◌, ◌∙◌, ◌++◌, ◌∷◌, [], ℕ, List, ap, arith, rules}
use Rattle.control_fields.specs.Spelling.{spell}
use Rattle.control_fields.proofs.Spelled.{spelled_first, spelled_later}
use Rattle.control_fields.proofs.writing.write_paragraphs.Goals as goal
use Rattle.control_fields.proofs.writing.write_paragraphs.Goals.{then-i-gt0+in_ok-push, else-i-gt0}

pub loop-i-preserved : goal.loop-i-preserved
loop-i-preserved c =
    elim c.if-i-gt0.branch [
      | then-i-gt0+in_ok-push w ↦ (
          let e : c.if-i-gt0.out.items ≡ c.loop-i.out.items ++ 10 ∷ [] = search rules in
          c.in_ok-write_fields.ensures ∙ ap (λ (t : List ℕ). t ++ spell c.index-paragraphs-i.result) e
          ∙ spelled_later c.args.paragraphs.now c.loop-i.i c.index-paragraphs-i.result c.loop-i.out.items (omega arith) c.loop-i-test.true c.index-paragraphs-i.is c.loop-i.invariant
          )
      | else-i-gt0 w ↦ (
          let e : c.if-i-gt0.out.items ≡ c.loop-i.out.items = search rules in
          c.in_ok-write_fields.ensures ∙ ap (λ (t : List ℕ). t ++ spell c.index-paragraphs-i.result) e
          ∙ spelled_first c.args.paragraphs.now c.loop-i.i c.index-paragraphs-i.result c.loop-i.out.items (omega arith) c.loop-i-test.true c.index-paragraphs-i.is c.loop-i.invariant
          )
    ]
