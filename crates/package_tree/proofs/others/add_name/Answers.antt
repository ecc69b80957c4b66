use Rattle.std.proofs.Common.{◌∙◌, ap, true}
use Rattle.std.specs.BTreeSet.{contains_text}
use Rattle.std.specs.String.{string_bytes}
use Rattle.std.proofs.lemmas.Map.Text.{btree_set_updates_text}
use Rattle.package_tree.specs.OtherNames.{is_other_name}
use Rattle.package_tree.proofs.Named.{passing_added, failing_added}
use Rattle.package_tree.proofs.others.add_name.Goals as goal

pub returns-then-is_other_name : goal.returns-then-is_other_name
returns-then-is_other_name c = λ q.
    let key = string_bytes c.in_ok-from_str.field-0 in
    passing_added is_other_name c.args.name.now key q c.is_other_name.result (contains_text c.insert.new.self q) (contains_text c.args.set.now q) (c.is_other_name.ensures ∙ ap is_other_name c.as_str.ensures) c.if-is_other_name.true
    (c.in_ok-from_str.ensures.ok ∙ c.as_str-then-is_other_name.ensures) (btree_set_updates_text key c.args.set.now c.insert.new.self true c.in_ok-insert.ensures.updates q)

pub returns : goal.returns
returns c = λ q. failing_added is_other_name c.args.name.now q c.is_other_name.result (contains_text c.args.set.now q) (c.is_other_name.ensures ∙ ap is_other_name c.as_str.ensures) c.if-is_other_name.false
