use Rattle.std.proofs.Common.{◌≡◌, ◌++◌, List, ap, subst, ◌∙◌}
use Rattle.std.proofs.lemmas.Result.{IfOk-weaker}
use Rattle.host_core.specs.Paths.{Path}
use Rattle.file_lists.specs.Owners.{IsSameSet}
use Rattle.list_changes.proofs.Listings.{union_is}
use Rattle.list_changes.proofs.union.union_of.Goals as goal

pub returns-clause-union : goal.returns-clause-union
returns-clause-union c =
    let all : c.add_all-2.new.paths ≡ c.args.listed.now ++ c.args.shipped.now =
    c.in_ok-add_all-2.ensures ∙ ap (λ (l : List Path). l ++ c.args.shipped.now) (c.in_ok-add_all.ensures ∙ ap (λ (l : List Path). l ++ c.args.listed.now) c.new.ensures.items) in
    IfOk-weaker c.in_order.result _ _ (λ paths same. union_is c.args.listed.now c.args.shipped.now paths (subst (λ (l : List Path). IsSameSet l paths) all same)) c.in_order.ensures.same
