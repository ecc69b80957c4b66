use Rattle.std.proofs.Common.{◌∙◌, true}
use Rattle.std.specs.BTreeSet.{contains_text}
use Rattle.std.specs.String.{string_bytes}
use Rattle.std.proofs.lemmas.Map.Text.{btree_set_updates_text}
use Rattle.package_tree.proofs.Named.{text_added}
use Rattle.package_tree.proofs.line_names.add_text.Goals as goal

pub returns-in_ok-insert : goal.returns-in_ok-insert
returns-in_ok-insert c = λ q text.
    let key = string_bytes c.in_ok-from_str.field-0 in
    text_added key c.args.bytes.now q (contains_text c.insert.new.self q) (contains_text c.args.names.now q) (c.in_ok-from_str.ensures.ok ∙ c.in-Ok.ensures.cases.0)
    (btree_set_updates_text key c.args.names.now c.insert.new.self true c.in_ok-insert.ensures.updates q)
