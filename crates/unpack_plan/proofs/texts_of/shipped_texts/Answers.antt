use Rattle.std.proofs.Common.{◌∙◌, true}
use Rattle.std.specs.BTreeSet.{contains_text}
use Rattle.std.specs.String.{string_bytes}
use Rattle.std.proofs.lemmas.Map.Text.{btree_set_updates_text}
use Rattle.package_tree.specs.declared.shipped.Shipped.{Shipped}
use Rattle.unpack_plan.proofs.Gathered.{text_added}
use Rattle.unpack_plan.proofs.texts_of.shipped_texts.Goals as goal

pub loop-file-preserved : goal.loop-file-preserved
loop-file-preserved c = λ q.
    let key = string_bytes c.in_ok-from_str.field-0 in
    text_added (λ (f : Shipped). f.path) c.args.files.now c.loop-file.file-index c.file-item.result key q (contains_text c.insert.new.self q) (contains_text c.loop-file.set q)
    c.loop-file-test.true c.file-item.is (c.in_ok-from_str.ensures.ok ∙ c.as_str.ensures)
    (btree_set_updates_text key c.loop-file.set c.insert.new.self true c.in_ok-insert.ensures.updates q) (c.loop-file.invariant q)
