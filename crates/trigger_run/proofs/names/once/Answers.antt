use Rattle.std.proofs.Common.{rules, ◌≡◌, ◌++◌, ◌∷◌, [], List, ℕ, false, true, sym, ap, ◌∙◌, subst}
use Rattle.trigger_run.specs.Names.{is_among, once}
use Rattle.trigger_run.proofs.Once.{new_of, none_seen, seen_again, seen_first}
use Rattle.trigger_run.proofs.names.once.Goals as goal

pub loop-name-init : goal.loop-name-init
loop-name-init c =
    let none : c.new-list.result.items ≡ [] = c.new-list.ensures.items in
    let rest : c.into_iter-name-iterator.result.rest.items ≡ c.args.names.items = search rules in
    subst (λ (l : List (List ℕ)). once c.args.names.items ≡ l ++ new_of l (once c.into_iter-name-iterator.result.rest.items)) (sym none)
    (ap once (sym rest) ∙ sym (none_seen (once c.into_iter-name-iterator.result.rest.items)))

pub loop-name-preserved-in-Continue-1 : goal.loop-name-preserved-in-Continue-1
loop-name-preserved-in-Continue-1 c =
    let list = c.loop-name.list.items in
    let name = c.in-Some.name in
    let rest = c.next.new.self.rest.items in
    let split : c.loop-name.name-iterator.rest.items ≡ name ∷ rest = search rules in
    let unseen : is_among list name ≡ false = search rules in
    let grown : c.push.new.self.items ≡ list ++ name ∷ [] = search rules in
    subst (λ (l : List (List ℕ)). once c.args.names.items ≡ l ++ new_of l (once rest)) (sym grown)
    (c.loop-name.invariant ∙ ap (λ (l : List (List ℕ)). list ++ new_of list (once l)) split ∙ seen_first list name (once rest) unseen)

pub loop-name-preserved : goal.loop-name-preserved
loop-name-preserved c =
    let list = c.loop-name.list.items in
    let name = c.in-Some.name in
    let rest = c.next.new.self.rest.items in
    let split : c.loop-name.name-iterator.rest.items ≡ name ∷ rest = search rules in
    let seen : is_among list name ≡ true = search rules in
    c.loop-name.invariant ∙ ap (λ (l : List (List ℕ)). list ++ new_of list (once l)) split ∙ ap (λ (l : List (List ℕ)). list ++ l) (seen_again list name (once rest) seen)
