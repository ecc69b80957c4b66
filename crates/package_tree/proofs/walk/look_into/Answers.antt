use Rattle.std.proofs.Common.{◌≡◌, subst, List}
use Rattle.std.specs.Prelude.{◌||◌}
use Rattle.std.specs.BTreeSet.{contains_text}
use Rattle.host_core.specs.Paths.{Path}
use Rattle.package_tree.specs.Walk.{is_child}
use Rattle.package_tree.proofs.Walks.{sees_from_listing, none_bad, children_from_listing}
use Rattle.package_tree.proofs.walk.look_into.Goals as goal

pub returns-clause-found : goal.returns-clause-found
returns-clause-found g c = λ h.
    let w = (g.H.Host.state c.args.host.now).world in
    let dir = c.args.dir.now in
    let names = c.in_ok-listing.listing.names in
    let bad = c.in_ok-listing.listing.bad in
    let listed = c.in_ok-listing.ensures.listed h in
    let is : (q : Path) → contains_text c.add_children.new.todo q ≡ (is_child dir names q || contains_text c.args.todo.now q) = λ q. subst (λ (l : List Path). contains_text c.add_children.new.todo q ≡ (is_child dir l q || contains_text c.args.todo.now q)) c.as_slice.ensures (c.in_ok-add_children.ensures q) in
    (none_bad w dir names bad c.if-listing.false listed, sees_from_listing w dir names bad (contains_text c.args.todo.now) (contains_text c.add_children.new.todo) c.if-listing.false listed is)

pub returns-clause-children : goal.returns-clause-children
returns-clause-children g c = children_from_listing c.args.dir.now c.as_slice.result.now (contains_text c.args.todo.now) (contains_text c.add_children.new.todo) c.in_ok-add_children.ensures
