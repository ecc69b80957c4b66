use Rattle.std.proofs.Common.{◌≡◌, ◌↔◌, ◌⊎◌, ◌++◌, List, Contains, ap, subst, ◌∙◌}
use Rattle.std.proofs.lemmas.Result.{IfOk-weaker}
use Rattle.host_core.specs.Paths.{Path}
use Rattle.list_changes.specs.NewList.{IsAboveOne}
use Rattle.list_changes.proofs.Listings.{parents_listable, with_parents_is}
use Rattle.list_changes.proofs.parents.list_with_parents.Goals as goal

pub in_order-requires : goal.in_order-requires
in_order-requires c =
    let first : c.add_all.new.paths ≡ c.args.paths.now = c.in_ok-add_all.ensures ∙ ap (λ (l : List Path). l ++ c.args.paths.now) c.new.ensures.items in
    parents_listable c.args.paths.now c.args.of.now c.add_all_parents.new.paths
    (λ q. subst (λ (l : List Path). Contains c.add_all_parents.new.paths q ↔ (Contains l q ⊎ IsAboveOne q c.args.of.now)) first (c.in_ok-add_all_parents.ensures q)) c.requires.paths c.requires.of

pub returns-clause-list : goal.returns-clause-list
returns-clause-list c =
    let first : c.add_all.new.paths ≡ c.args.paths.now = c.in_ok-add_all.ensures ∙ ap (λ (l : List Path). l ++ c.args.paths.now) c.new.ensures.items in
    IfOk-weaker c.in_order.result _ _ (λ listed same. with_parents_is c.args.paths.now c.args.of.now c.add_all_parents.new.paths
    (λ q. subst (λ (l : List Path). Contains c.add_all_parents.new.paths q ↔ (Contains l q ⊎ IsAboveOne q c.args.of.now)) first (c.in_ok-add_all_parents.ensures q)) listed same) c.in_order.ensures.same
