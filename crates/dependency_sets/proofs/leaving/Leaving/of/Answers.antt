use Rattle.std.proofs.Common.{rules, refl, subst, sym, ◌≡◌, ◌∙◌, List, Bool, length, false}
use Rattle.std.specs.Prelude.{replicate}
use Rattle.dependency_sets.specs.Kept.{IsLeavingNow}
use Rattle.dependency_sets.specs.Removal.{AreReliances}
use Rattle.dependency_sets.specs.Sets.{has}
use Rattle.dependency_sets.specs.declared.clause.Clause.{Clause}
use Rattle.dependency_sets.proofs.RemovalLaws.{leaving_now_first}
use Rattle.dependency_sets.proofs.leaving.Leaving.of.Goals as goal

pub invariant_of-result : goal.invariant_of-result
invariant_of-result c =
    let none' : c.in_ok-none.none.items ≡ replicate (length c.args.installed.now) false = search rules in
    let rel = subst (λ (l : List Clause). AreReliances l (has c.args.installed.now) (has c.args.waiting.now) c.in_ok-list.list.items) c.as_slice.ensures.value c.in_ok-list.ensures in
    subst (λ (l : List Bool). IsLeavingNow c.args.clauses.items l c.in_ok-kept.kept) (sym c.in_ok-installed.ensures.items)
    (leaving_now_first c.args.clauses.items c.in_ok-list.list.items c.args.installed.now c.args.waiting.now c.as_slice-2.result.now (length c.args.installed.now) c.in_ok-kept.kept rel (c.as_slice-2.ensures.value ∙ none') refl c.in_ok-kept.ensures)
