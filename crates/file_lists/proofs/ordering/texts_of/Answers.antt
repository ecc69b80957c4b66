use Rattle.std.proofs.Common.{◌∙◌, true}
use Rattle.std.specs.BTreeSet.{contains_text}
use Rattle.std.specs.String.{string_bytes}
use Rattle.std.proofs.lemmas.Map.Text.{btree_set_updates_text}
use Rattle.file_lists.proofs.Among.{name_added}
use Rattle.file_lists.proofs.ordering.texts_of.Goals as goal

pub loop-path-preserved : goal.loop-path-preserved
loop-path-preserved c = λ q.
    let key = string_bytes c.in_ok-from_str.field-0 in
    name_added c.args.paths.now c.loop-path.path-index c.path-item.result key q (contains_text c.insert.new.self q) (contains_text c.loop-path.set q)
    c.loop-path-test.true c.path-item.is (c.in_ok-from_str.ensures.ok ∙ c.as_str.ensures)
    (btree_set_updates_text key c.loop-path.set c.insert.new.self true c.in_ok-insert.ensures.updates q) (c.loop-path.invariant q)
