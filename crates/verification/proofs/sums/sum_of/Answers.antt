use Rattle.std.proofs.Common.{◌≡◌, ℕ, List, ◌∷◌, ◌∙◌, ap, sym, codes, drop, take, arith}
use Rattle.std.specs.Str.{bytes_eq}
use Rattle.std.proofs.lemmas.Bool.{not-false, not-true}
use Rattle.std.proofs.lemmas.List.{length-take}
use Rattle.verification.proofs.SumLines.{no_text, other_blanks, rest_of, short_line, whole_sum}
use Rattle.verification.proofs.sums.sum_of.Goals as goal
use Rattle.verification.proofs.sums.sum_of.Goals.{then-line-lt34-via-then-line-lt34, then-line-lt34-via-else-line-lt34+then-ne}

pub returns-then-line-lt34 : goal.returns-then-line-lt34
returns-then-line-lt34 c = elim c.then-line-lt34.branch [
  | then-line-lt34-via-then-line-lt34 w ↦ short_line c.args.line.now w.if-line-lt34.true
  | then-line-lt34-via-else-line-lt34+then-ne w ↦
      other_blanks c.args.line.now (ap (bytes_eq (take 2 (drop 32 c.args.line.now))) (sym w.as_slice.ensures) ∙ not-true (bytes_eq (take 2 (drop 32 c.args.line.now)) w.as_slice.result.now) (sym w.ne.ensures ∙ w.if-ne.true))
]

pub slice_bounds-digest_of-end : goal.slice_bounds-digest_of-end
slice_bounds-digest_of-end c = let long = c.if-line-lt34.false in let cut = length-take 32 c.args.line.now in omega (arith, long, cut)

pub returns-in_default-from_utf8 : goal.returns-in_default-from_utf8
returns-in_default-from_utf8 c = no_text c.args.line.now c.in_default-from_utf8.ensures.cases.0

pub returns : goal.returns
returns c =
    let line = c.args.line.now in
    let blanks = ap (bytes_eq (take 2 (drop 32 line))) (sym c.as_slice.ensures) ∙ not-false (bytes_eq (take 2 (drop 32 line)) c.as_slice.result.now) (sym c.ne.ensures ∙ c.if-ne.false) in
    record {
      is = whole_sum line (sym c.in-Some.ensures.exact) blanks c.in-Ok.ensures.cases.1;
      path = c.new-path.ensures ∙ c.in_ok-format.ensures.ok ∙ ap (λ (p : List ℕ). 47 ∷ p) (c.in-Ok.ensures.cases.0 ∙ rest_of line);
      digest = c.in-Some.ensures.value;
    }
