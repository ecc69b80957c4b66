use Rattle.std.proofs.Common.{◌≡◌, ◌↔◌, ◌⊎◌, ◌++◌, List, Contains, ap, subst, ◌∙◌}
use Rattle.std.proofs.lemmas.Result.{IfOk-weaker}
use Rattle.host_core.specs.Paths.{Path}
use Rattle.list_changes.specs.NewList.{IsAboveOne}
use Rattle.list_changes.proofs.Listings.{new_listable, new_list_is}
use Rattle.list_changes.proofs.parents.list_of.Goals as goal

pub in_order-requires : goal.in_order-requires
in_order-requires c =
    let both : c.add_all-2.new.paths ≡ c.args.shipped.now ++ c.args.staying.now =
    c.in_ok-add_all-2.ensures ∙ ap (λ (l : List Path). l ++ c.args.staying.now) (c.in_ok-add_all.ensures ∙ ap (λ (l : List Path). l ++ c.args.shipped.now) c.new.ensures.items) in
    new_listable c.args.shipped.now c.args.staying.now c.add_all_parents.new.paths
    (λ q. subst (λ (l : List Path). Contains c.add_all_parents.new.paths q ↔ (Contains l q ⊎ IsAboveOne q c.args.staying.now)) both (c.in_ok-add_all_parents.ensures q)) c.requires.shipped c.requires.staying

pub returns-clause-list : goal.returns-clause-list
returns-clause-list c =
    let both : c.add_all-2.new.paths ≡ c.args.shipped.now ++ c.args.staying.now =
    c.in_ok-add_all-2.ensures ∙ ap (λ (l : List Path). l ++ c.args.staying.now) (c.in_ok-add_all.ensures ∙ ap (λ (l : List Path). l ++ c.args.shipped.now) c.new.ensures.items) in
    IfOk-weaker c.in_order.result _ _ (λ paths same. new_list_is c.args.shipped.now c.args.staying.now c.add_all_parents.new.paths
    (λ q. subst (λ (l : List Path). Contains c.add_all_parents.new.paths q ↔ (Contains l q ⊎ IsAboveOne q c.args.staying.now)) both (c.in_ok-add_all_parents.ensures q)) paths same) c.in_order.ensures.same
