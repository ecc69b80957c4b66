use Rattle.std.proofs.Common.{rules, ◌≡◌, ◌≤◌, ◌+◌, ◌++◌, ◌∷◌, [], List, ℕ, arith, drop, length, sym, ap, ◌∙◌, subst}
use Rattle.std.proofs.lemmas.List.{drop_all, drop_more}
use Rattle.name_sets.specs.Names.{each_once}
use Rattle.name_sets.proofs.Fresh.{new_of, none_left, none_seen, seen_or_not}
use Rattle.name_sets.proofs.mentions.each_once.Goals as goal

pub loop-name-init : goal.loop-name-init
loop-name-init c =
    let none : c.new-list.result.items ≡ [] = c.new-list.ensures.items in (
      subst (λ (l : List (List ℕ)). each_once c.args.names.now ≡ l ++ new_of l (each_once c.args.names.now)) (sym none) (sym (none_seen (each_once c.args.names.now))),
      search rules,
    )

pub loop-name-preserved : goal.loop-name-preserved
loop-name-preserved c =
    let list = c.loop-name.list.items in
    let names = c.args.names.now in
    let name = c.name-item.result in
    let i = c.loop-name.name-index in
    let rest = each_once (drop (i + 1) names) in
    let split : drop i names ≡ name ∷ drop (i + 1) names = drop_more names i name c.loop-name-test.true ∙ ap (λ (n : List ℕ). n ∷ drop (i + 1) names) (sym c.name-item.is) in (
      c.loop-name.invariant.0 ∙ ap (λ (l : List (List ℕ)). list ++ new_of list (each_once l)) split ∙ seen_or_not list c.push_once.new.names.items name rest c.in_ok-push_once.ensures.names,
      c.in_ok-push_once.ensures.set,
    )

pub returns : goal.returns
returns c =
    let list = c.loop-name.list.items in
    let end : length c.args.names.now ≤ c.loop-name.name-index = omega (arith, c.loop-name-test.false) in
    sym (c.loop-name.invariant.0 ∙ ap (λ (l : List (List ℕ)). list ++ new_of list (each_once l)) (drop_all c.loop-name.name-index c.args.names.now end) ∙ none_left list)
