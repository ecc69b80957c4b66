use Rattle.std.proofs.Common.{◌∙◌, sym, subst, arith, List, ℕ}
use Rattle.std.proofs.lemmas.Bool.{true≢false}
use Rattle.name_tables.specs.Order.{IsBefore}
use Rattle.name_tables.proofs.Searching.{neighbours, adjacent_order, adjacent_more}
use Rattle.name_tables.proofs.places.are_in_order.Goals as goal

pub returns-then-not-is_before : goal.returns-then-not-is_before
returns-then-not-is_before g c = λ order.
    let called = g.T.Named.called in
    let less = neighbours called c.args.values.now c.loop-at.at c.index-values-at.result c.index-values-at-in-loop-at.result c.loop-at-test.true (omega (arith, c.loop-at.auto.at)) c.index-values-at.is c.index-values-at-in-loop-at.is order in
    let told = c.is_before.ensures.1 (subst (λ (n : List ℕ). IsBefore (called c.index-values-at.result) n) (sym (c.as_bytes.ensures.value ∙ c.as_str.ensures ∙ c.name.ensures)) less) in
    true≢false (sym told ∙ c.if-not-is_before.true)

pub loop-at-preserved : goal.loop-at-preserved
loop-at-preserved g c =
    let called = g.T.Named.called in
    adjacent_more called c.args.values.now c.loop-at.at c.index-values-at.result c.index-values-at-in-loop-at.result c.loop-at-test.true (omega (arith, c.loop-at.auto.at)) c.loop-at.invariant c.index-values-at.is c.index-values-at-in-loop-at.is
    (subst (λ (n : List ℕ). IsBefore (called c.index-values-at.result) n) (c.as_bytes.ensures.value ∙ c.as_str.ensures ∙ c.name.ensures) (c.is_before.ensures.0 c.if-not-is_before.false))

pub returns : goal.returns
returns g c = adjacent_order g.T.Named.called c.args.values.now (λ k lt. c.loop-at.invariant k (omega (arith, lt, c.loop-at-test.false)))
