use Rattle.std.proofs.Common.{◌≡◌, ◌∙◌, ◌∷◌, ◌++◌, ap, subst, true, false}
use Rattle.std.specs.Prelude.{MatchOption}
use Rattle.std.specs.String.{string_bytes}
use Rattle.std.specs.BTreeSet.{contains_text}
use Rattle.std.proofs.lemmas.Map.Text.{btree_set_updates_text}
use Rattle.host_core.specs.Paths.{Path, is_path}
use Rattle.package_tree.specs.Shipped.{is_control}
use Rattle.package_tree.proofs.Walks.{no_path, in_control, child_inserted}
use Rattle.package_tree.proofs.walk.add_child.Goals as goal

pub returns-in_default : goal.returns-in_default
returns-in_default c = λ q. no_path c.args.dir.now c.args.name.now q (contains_text c.args.todo.now q)
    (subst (λ o. MatchOption o (is_path (c.args.dir.now ++ 47 ∷ c.args.name.now) ≡ false) (λ (p : Path). p ≡ c.args.dir.now ++ 47 ∷ c.args.name.now)) c.in_default.is c.in_ok-path.ensures)

pub returns-then-is_control : goal.returns-then-is_control
returns-then-is_control c = λ q.
    let is = subst (λ o. MatchOption o (is_path (c.args.dir.now ++ 47 ∷ c.args.name.now) ≡ false) (λ (p : Path). p ≡ c.args.dir.now ++ 47 ∷ c.args.name.now)) c.in-Some.is c.in_ok-path.ensures in
    in_control c.args.dir.now c.args.name.now q c.in-Some.path c.is_control.result (contains_text c.args.todo.now q) is (c.is_control.ensures ∙ ap is_control c.as_str.ensures) c.if-is_control.true

pub returns : goal.returns
returns c = λ q.
    let is = subst (λ o. MatchOption o (is_path (c.args.dir.now ++ 47 ∷ c.args.name.now) ≡ false) (λ (p : Path). p ≡ c.args.dir.now ++ 47 ∷ c.args.name.now)) c.in-Some.is c.in_ok-path.ensures in
    let key = string_bytes c.in_ok-from_str.field-0 in
    child_inserted c.args.dir.now c.args.name.now q c.in-Some.path key c.is_control.result (contains_text c.insert.new.self q) (contains_text c.args.todo.now q) is (subst (λ (p : Path). is_path p ≡ true) c.path.view_is c.path.invariant) (c.is_control.ensures ∙ ap is_control c.as_str.ensures) c.if-is_control.false
    (c.in_ok-from_str.ensures.ok ∙ c.as_str-2.ensures)
    (btree_set_updates_text key c.args.todo.now c.insert.new.self true c.in_ok-insert.ensures.updates q)
