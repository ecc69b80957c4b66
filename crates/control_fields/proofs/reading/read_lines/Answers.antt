use Rattle.std.proofs.Common.{◌≡◌, ◌∙◌, sym, ap, subst, List, ℕ, ◌++◌, ◌∷◌, [], length, arith, append_assoc, length-append}
use Rattle.std.proofs.lemmas.Result.{err_from_is_err_and}
use Rattle.control_fields.specs.Grammar.{Reading, start, lines_of, Run}
use Rattle.control_fields.proofs.Cases.{run_more}
use Rattle.control_fields.proofs.LinesOf.{lines_cut, lines_last}
use Rattle.control_fields.proofs.Stops.{stops_at}
use Rattle.control_fields.proofs.reading.read_lines.Goals as goal

pub returns-in_err-take_at-clause-fault : goal.returns-in_err-take_at-clause-fault
returns-in_err-take_at-clause-fault c =
    let inv = c.loop-line.invariant in
    let p = err_from_is_err_and c.from_residual.result c.from_residual.ensures.1 in
    rw (p.1, p.2) (stops_at c.args.single (lines_of c.args.bytes.now) inv.0 c.in-Some.line.now (lines_of c.in-Some.after.now) c.loop-line.number (record { done = c.loop-line.done.items; begun = c.loop-line.begun })
    (record { done = c.take_at.new.done.items; begun = c.take_at.new.begun }) c.in_err-take_at.field-0.0
    (inv.2 ∙ ap (λ (l : List (List ℕ)). inv.0 ++ l) (lines_cut c.loop-line.rest.now c.in-Some.line.now c.in-Some.after.now c.in-Some.ensures.some.0 c.in-Some.ensures.some.1)) inv.3 inv.1 inv.5 c.in_err-take_at.ensures.fault)

pub loop-line-preserved : goal.loop-line-preserved
loop-line-preserved c =
    let inv = c.loop-line.invariant in
    let line = c.in-Some.line.now in
    let after = c.in-Some.after.now in
    let size : length c.loop-line.rest.now ≡ length (line ++ 10 ∷ after) = ap length c.in-Some.ensures.some.0 in (
      inv.0 ++ line ∷ [],
      run_more 1 c.loop-line.number inv.0 line start (record { done = c.loop-line.done.items; begun = c.loop-line.begun }) (record { done = c.take_at.new.done.items; begun = c.take_at.new.begun }) inv.1 inv.3 c.in_ok-take_at.ensures.takes,
      inv.2 ∙ ap (λ (l : List (List ℕ)). inv.0 ++ l) (lines_cut c.loop-line.rest.now line after c.in-Some.ensures.some.0 c.in-Some.ensures.some.1) ∙ sym (append_assoc inv.0 (line ∷ []) (lines_of after)),
      omega (arith, inv.3, length-append inv.0 (line ∷ [])),
      omega (arith, inv.4, size, length-append line (10 ∷ after)),
      c.in_ok-take_at.ensures.one,
    )

pub returns-in_err-take_at-2-clause-fault : goal.returns-in_err-take_at-2-clause-fault
returns-in_err-take_at-2-clause-fault c =
    let inv = c.loop-line.invariant in
    let p = err_from_is_err_and c.from_residual-in_err-take_at-2.result c.from_residual-in_err-take_at-2.ensures.1 in
    rw (p.1, p.2) (stops_at c.args.single (lines_of c.args.bytes.now) inv.0 c.loop-line.rest.now [] c.loop-line.number (record { done = c.loop-line.done.items; begun = c.loop-line.begun })
    (record { done = c.take_at-2.new.done.items; begun = c.take_at-2.new.begun }) c.in_err-take_at-2.field-0.0
    (inv.2 ∙ ap (λ (l : List (List ℕ)). inv.0 ++ l) (lines_last c.loop-line.rest.now c.in_default.ensures.none)) inv.3 inv.1 inv.5 c.in_err-take_at-2.ensures.fault)

pub returns-clause-run : goal.returns-clause-run
returns-clause-run c =
    let inv = c.loop-line.invariant in
    let s : Reading = record { done = c.take_at-2.new.done.items; begun = c.take_at-2.new.begun } in
    let all : lines_of c.args.bytes.now ≡ inv.0 ++ c.loop-line.rest.now ∷ [] = inv.2 ∙ ap (λ (l : List (List ℕ)). inv.0 ++ l) (lines_last c.loop-line.rest.now c.in_default.ensures.none) in
    subst (λ (ls : List (List ℕ)). Run 1 ls start s) (sym all) (run_more 1 c.loop-line.number inv.0 c.loop-line.rest.now start (record { done = c.loop-line.done.items; begun = c.loop-line.begun }) s inv.1 inv.3 c.in_ok-take_at-2.ensures.takes)
