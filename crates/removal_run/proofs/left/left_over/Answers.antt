use Rattle.std.proofs.Common.{rules, ◌≡◌, ◌≤◌, ◌+◌, ◌++◌, ◌∷◌, [], List, ℕ, Bool, ap, subst, sym, ◌∙◌, arith, length, get_or, map, take}
use Rattle.std.specs.Prelude.{IsTrue}
use Rattle.std.proofs.lemmas.List.{take_all, take_more}
use Rattle.dependency_sets.specs.Choices.{IsListing}
use Rattle.dependency_sets.specs.Sets.{has}
use Rattle.unit_reports.specs.declared.report.Unit.{Unit as AUnit}
use Rattle.removal_run.specs.LeftOver.{AreDependedOn, IsDependedOn}
use Rattle.removal_run.specs.Waiting.{is_named}
use Rattle.removal_run.proofs.Following.{waits_at}
use Rattle.removal_run.proofs.Overleft.{all_told, depended_more, listed_at}
use Rattle.removal_run.proofs.left.left_over.Goals as goal

pub left_unit-requires-clause-within : goal.left_unit-requires-clause-within
left_unit-requires-clause-within c =
    let q = c.args.queue.now in
    let items = c.as_slice-number-items.result.now in
    let i = c.loop-number.number-index in
    let marked = listed_at (has c.as_slice-2.result.now) c.in_ok-numbers.numbers items i c.as_slice-number-items.ensures c.in_ok-numbers.ensures c.loop-number-test.true in
    let marks = c.as_slice-2.ensures.value ∙ c.in_ok-left.ensures ∙ ap (map (is_named c.args.waiting.now)) (c.as_slice.ensures.list ∙ c.packages.ensures) in
    (waits_at c.args.waiting.now q.packages (get_or items i 0) (subst (λ (l : List Bool). IsTrue (has l (get_or items i 0))) marks marked)).0

pub left_unit-requires-clause-none : goal.left_unit-requires-clause-none
left_unit-requires-clause-none c = c.requires.none (get_or c.as_slice-number-items.result.now c.loop-number.number-index 0)

pub loop-number-preserved : goal.loop-number-preserved
loop-number-preserved c =
    let q = c.args.queue.now in
    let items = c.as_slice-number-items.result.now in
    let i = c.loop-number.number-index in
    let left = c.in_ok-left.left.items in
    let unit = c.in_ok-left_unit.field-0 in
    let grown : c.push.new.self.items ≡ c.loop-number.units.items ++ unit ∷ [] = search rules in
    let told = subst (λ (l : List Bool). IsDependedOn q.packages (has q.installed) (has l) (get_or items i 0) unit) c.as_slice-in-loop-number.ensures.value c.in_ok-left_unit.ensures in
    subst (λ (us : List AUnit). AreDependedOn q.packages (has q.installed) (has left) (take (i + 1) items) us) (sym grown)
    (subst (λ (xs : List ℕ). AreDependedOn q.packages (has q.installed) (has left) xs (c.loop-number.units.items ++ unit ∷ [])) (sym (take_more items i 0 c.loop-number-test.true))
    (depended_more q.packages (has q.installed) (has left) (take i items) c.loop-number.units.items (get_or items i 0) unit c.loop-number.invariant told))

pub returns : goal.returns
returns c =
    let q = c.args.queue.now in
    let items = c.as_slice-number-items.result.now in
    let left = c.in_ok-left.left.items in
    let numbers = c.in_ok-numbers.numbers in
    let end : length items ≤ c.loop-number.number-index = omega (arith, c.loop-number-test.false) in
    let over = c.in_ok-left.ensures ∙ ap (map (is_named c.args.waiting.now)) (c.as_slice.ensures.list ∙ c.packages.ensures) ∙ sym c.requires.queue in
    let are = subst (λ (l : List Bool). IsListing (λ x. IsTrue (has l x)) numbers) c.as_slice-2.ensures.value c.in_ok-numbers.ensures in
    let each = subst (λ (xs : List ℕ). AreDependedOn q.packages (has q.installed) (has left) xs c.loop-number.units.items) (take_all c.loop-number.number-index items end) c.loop-number.invariant in
    all_told q left numbers items c.loop-number.units.items over c.as_slice-number-items.ensures are each
