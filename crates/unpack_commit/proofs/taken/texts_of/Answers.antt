use Rattle.std.proofs.Common.{◌∙◌, true}
use Rattle.std.specs.BTreeSet.{contains_text}
use Rattle.std.specs.String.{string_bytes}
use Rattle.std.proofs.lemmas.Map.Text.{btree_set_updates_text}
use Rattle.file_lists.proofs.Among.{name_added}
use Rattle.unpack_commit.proofs.taken.texts_of.Goals as goal

pub loop-place-preserved : goal.loop-place-preserved
loop-place-preserved c = λ q.
    let key = string_bytes c.in_ok-from_str.field-0 in
    name_added c.args.places.now c.loop-place.place-index c.place-item.result key q (contains_text c.insert.new.self q) (contains_text c.loop-place.texts q)
    c.loop-place-test.true c.place-item.is (c.in_ok-from_str.ensures.ok ∙ c.as_str.ensures)
    (btree_set_updates_text key c.loop-place.texts c.insert.new.self true c.in_ok-insert.ensures.updates q) (c.loop-place.invariant q)
