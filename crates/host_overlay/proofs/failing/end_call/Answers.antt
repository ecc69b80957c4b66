use Rattle.std.proofs.Common.{◌≡◌, ◌+◌, ◌∙◌, ◌++◌, ℕ, suc, Bool, cond, take, drop, rules, tests, sym, ap, arith}
use Rattle.std.specs.Prelude.{pos}
use Rattle.std.specs.List.{position_from}
use Rattle.std.proofs.lemmas.Iterator.{YieldsList-from_slice}
use Rattle.std.proofs.lemmas.Iterator.Adapters.{position_from-zero}
use Rattle.std.proofs.lemmas.Iterator.Search.{position_from_yields_List}
use Rattle.host_core.specs.declared.call.Outcome.TheVariants.{Exit}
use Rattle.host_overlay.proofs.Failures.{named, found_at, none_at}
use Rattle.host_overlay.proofs.failing.end_call.Goals as goal
use Rattle.host_overlay.proofs.failing.end_call.Goals.{After-position}

placed : (c : After-position) → c.position.result ≡ position_from (named c.args.call.now) 0 c.args.failing.now.items
placed c =
    position_from_yields_List (named c.args.call.now) _ _ _ c.position.ensures.ran (YieldsList-from_slice c.args.failing.now.items cc) (λ x b q h. search (rules, tests))
    ∙ position_from-zero (named c.args.call.now) c.args.failing.now.items

pub returns-in-Some-clause-left : goal.returns-in-Some-clause-left
returns-in-Some-clause-left c =
    let fs = c.args.failing.now.items in
    let found = found_at c.args.call.now fs 0 c.in-Some.index (sym (placed (goal.at.returns-in-Some-clause-left c).After-position) ∙ c.in-Some.is) in
    let same : c.in-Some.index ≡ found.0 = omega (arith, found.1) in
    let next : c.in-Some.index + 1 ≡ suc found.0 = omega (arith, found.1) in
    c.remove.ensures.by_index.2 ∙ ap (λ (i : ℕ). take i fs ++ drop (c.in-Some.index + 1) fs) same ∙ ap (λ (i : ℕ). take found.0 fs ++ drop i fs) next ∙ sym found.2

pub returns-in-None-clause-outcome : goal.returns-in-None-clause-outcome
returns-in-None-clause-outcome c =
    let none = none_at c.args.call.now c.args.failing.now.items 0 (sym (placed (goal.at.returns-in-None-clause-outcome c).After-position) ∙ c.in-None.is) in
    ap (λ (b : Bool). cond b (Exit (pos 1)) (Exit (pos 0))) (sym none.1)

pub returns-in-None-clause-left : goal.returns-in-None-clause-left
returns-in-None-clause-left c = sym (none_at c.args.call.now c.args.failing.now.items 0 (sym (placed (goal.at.returns-in-None-clause-left c).After-position) ∙ c.in-None.is)).0
